-- What the blocks and frames stand for.
use Rattle.std.proofs.Common.{◌≡◌, ℕ, suc, Bool, true, false, cond, ◌+◌, ◌-◌, ◌<◌, ◌≤◌, List, [], ◌∷◌, ◌++◌, length, take, drop, replicate, reverse, refl, ap, sym, ◌∙◌, subst, arith, length-append, length-drop}
use Rattle.std.specs.List.{sum_by}
use Rattle.std.proofs.Math.Seq.{take-length}
use Rattle.std.proofs.lemmas.List.{reverse-append}
use Rattle.std.proofs.lemmas.List.Sums.{sum_by-cons}
use Rattle.wasm_values.specs.Syntax.{Ops, no_ops}
use Rattle.wasm_steps.specs.Threads.{label, frame, frame_count, kept, size, Leaves, leaves_label, leaves_frame}
use Rattle.wasm_soundness.specs.Ready.{open_labels}
use Rattle.call_frames.specs.Stack.{Stack, Waiting}
use Rattle.call_frames.specs.Stack as frames
use mir.Val.{bool_byte}
use Rattle.wasm_stack.specs.Held.{Held, IsAtEnd, running, pushed, without, replaced, opened, called}
use Rattle.wasm_stack.specs.View.{ops_at, rest_of, count, floor_of, above, below, levels_of, held_of, AreControls, no_controls, one_label, one_frame}
use Rattle.wasm_stack.specs.declared.place.Place.{Place}
use Rattle.wasm_stack.specs.declared.control.Control.{Control}
use Rattle.wasm_stack.specs.declared.control.Control.TheVariants as control
use Rattle.wasm_stack.proofs.Floors.{above_below, length_above, length_below, above_append, below_append, below_all, above_all, above_none, above_drop, below_drop, take_above, above_push, below_push}

pub floor_within : (controls : List Control) (count : ℕ) (waiting : List Waiting) (depth : ℕ) → AreControls controls count waiting depth → floor_of controls ≤ count
floor_within [] count waiting depth h = omega arith
floor_within (control.Label again loops result height ∷ outer) count waiting depth (one_label h k) = h
floor_within (control.Frame rest result d ∷ outer) count waiting depth h = omega arith

-- They stand on as many operands as reach their floor.
pub on_floor : (controls : List Control) (held new : ℕ) (waiting : List Waiting) (depth : ℕ) → floor_of controls ≤ new → AreControls controls held waiting depth → AreControls controls new waiting depth
on_floor [] held new [] depth low no_controls = no_controls
on_floor [] held new (caller ∷ waiting) depth low h = elim h [ ]
on_floor (control.Label again loops result height ∷ outer) held new waiting depth low (one_label h k) = one_label low k
on_floor (control.Frame rest result d ∷ outer) held new [] depth low h = elim h [ ]
on_floor (control.Frame rest result d ∷ outer) held new (caller ∷ waiting) depth low (one_frame k) = one_frame k

-- ---- counts

pub frames_counted : (controls : List Control) (count : ℕ) (waiting : List Waiting) (depth : ℕ) (xs : List ℕ) → AreControls controls count waiting depth
    → frame_count (levels_of controls xs waiting) ≡ length waiting
frames_counted [] count [] depth xs no_controls = refl
frames_counted [] count (caller ∷ waiting) depth xs h = elim h [ ]
frames_counted (control.Frame rest result d ∷ outer) count [] depth xs h = elim h [ ]
frames_counted (control.Label again loops result height ∷ outer) count waiting depth xs (one_label {depth = d} h k) = frames_counted outer height waiting d (below (floor_of outer) xs) k
frames_counted (control.Frame rest result d ∷ outer) count (caller ∷ waiting) depth xs (one_frame k) =
    ap suc (frames_counted outer (length caller.operands) waiting d (below (floor_of outer) caller.operands) k)

pub labels_counted : (controls : List Control) (count : ℕ) (waiting : List Waiting) (depth : ℕ) (xs : List ℕ) → AreControls controls count waiting depth
    → open_labels (levels_of controls xs waiting) ≡ depth
labels_counted [] count [] depth xs no_controls = refl
labels_counted [] count (caller ∷ waiting) depth xs h = elim h [ ]
labels_counted (control.Frame rest result d ∷ outer) count [] depth xs h = elim h [ ]
labels_counted (control.Label again loops result height ∷ outer) count waiting depth xs (one_label {depth = d} h k) =
    let e : open_labels (levels_of outer (below (floor_of outer) xs) waiting) ≡ d = labels_counted outer height waiting d (below (floor_of outer) xs) k in
    omega arith
labels_counted (control.Frame rest result d ∷ outer) count (caller ∷ waiting) depth xs (one_frame k) = refl

pub levels_counted : (controls : List Control) (count : ℕ) (waiting : List Waiting) (depth : ℕ) (xs : List ℕ) → AreControls controls count waiting depth
    → length (levels_of controls xs waiting) ≡ length controls
levels_counted [] count [] depth xs no_controls = refl
levels_counted [] count (caller ∷ waiting) depth xs h = elim h [ ]
levels_counted (control.Frame rest result d ∷ outer) count [] depth xs h = elim h [ ]
levels_counted (control.Label again loops result height ∷ outer) count waiting depth xs (one_label {depth = d} h k) = ap suc (levels_counted outer height waiting d (below (floor_of outer) xs) k)
levels_counted (control.Frame rest result d ∷ outer) count (caller ∷ waiting) depth xs (one_frame k) =
    ap suc (levels_counted outer (length caller.operands) waiting d (below (floor_of outer) caller.operands) k)

-- what the frames that wait hold
abbrev sizes : List Waiting → ℕ
sizes = sum_by (λ caller. length caller.locals + length caller.operands)

values_counted : (controls : List Control) (waiting : List Waiting) (depth : ℕ) (xs : List ℕ) → AreControls controls (length xs) waiting depth
    → length (above (floor_of controls) xs) + sum_by kept (levels_of controls (below (floor_of controls) xs) waiting) ≡ length xs + sizes waiting
values_counted [] [] depth xs no_controls = ap (λ z. length z + 0) (above_none xs)
values_counted [] (caller ∷ waiting) depth xs h = elim h [ ]
values_counted (control.Frame rest result d ∷ outer) [] depth xs h = elim h [ ]
values_counted (control.Label again loops result height ∷ outer) waiting depth xs (one_label {depth = d} h k) =
    let n : length (below height xs) ≡ height = length_below height xs h in
    let m : length (above height xs) ≡ length xs - height = length_above height xs h in
    let under : AreControls outer (length (below height xs)) waiting d = subst (λ (z : ℕ). AreControls outer z waiting d) (sym n) k in
    let e : length (above (floor_of outer) (below height xs)) + sum_by kept (levels_of outer (below (floor_of outer) (below height xs)) waiting) ≡ length (below height xs) + sizes waiting = values_counted outer waiting d (below height xs) under in
    let f = sum_by-cons kept (label (count result) (ops_at again) (above (floor_of outer) (below height xs)) (rest_of loops again)) (levels_of outer (below (floor_of outer) (below height xs)) waiting) in
    omega arith
values_counted (control.Frame rest result d ∷ outer) (caller ∷ waiting) depth xs (one_frame k) =
    let m : length (above 0 xs) ≡ length xs = ap length (above_none xs) in
    let e : length (above (floor_of outer) caller.operands) + sum_by kept (levels_of outer (below (floor_of outer) caller.operands) waiting) ≡ length caller.operands + sizes waiting = values_counted outer waiting d caller.operands k in
    let f = sum_by-cons kept (frame (count result) caller.locals (above (floor_of outer) caller.operands) (ops_at rest)) (levels_of outer (below (floor_of outer) caller.operands) waiting) in
    let g = sum_by-cons (λ (w : Waiting). length w.locals + length w.operands) caller waiting in
    omega arith

pub size_held : (controls : List Control) (values : Stack) (depth : ℕ) (code : Ops) → AreControls controls (length values.operands) values.waiting depth
    → size (running code (held_of controls values)) ≡ frames.size values
size_held controls values depth code h =
    let e : length (above (floor_of controls) values.operands) + sum_by kept (levels_of controls (below (floor_of controls) values.operands) values.waiting) ≡ length values.operands + sizes values.waiting = values_counted controls values.waiting depth values.operands h in
    omega arith

-- ---- operands

pub held_pushed : (controls : List Control) (values : Stack) (v : ℕ) → floor_of controls ≤ length values.operands
    → held_of controls (frames.pushed v values) ≡ pushed v (held_of controls values)
held_pushed controls values v h =
    let a = above_push (floor_of controls) v values.operands h in
    let b = below_push (floor_of controls) v values.operands h in
    (ap (λ (z : List ℕ). record { operands = z; locals = values.locals; levels = levels_of controls (below (floor_of controls) (v ∷ values.operands)) values.waiting }) a)
    ∙ ap (λ (z : List ℕ). record { operands = v ∷ above (floor_of controls) values.operands; locals = values.locals; levels = levels_of controls z values.waiting }) b

pub held_without : (controls : List Control) (values : Stack) (count : ℕ) → floor_of controls ≤ length values.operands → count ≤ length (held_of controls values).operands
    → held_of controls (frames.without count values) ≡ without count (held_of controls values)
held_without controls values count h k =
    let a = above_drop (floor_of controls) count values.operands h k in
    let b = below_drop (floor_of controls) count values.operands h k in
    (ap (λ (z : List ℕ). record { operands = z; locals = values.locals; levels = levels_of controls (below (floor_of controls) (drop count values.operands)) values.waiting }) a)
    ∙ ap (λ (z : List ℕ). record { operands = drop count (above (floor_of controls) values.operands); locals = values.locals; levels = levels_of controls z values.waiting }) b

pub held_replaced : (controls : List Control) (values : Stack) (count v : ℕ) → floor_of controls ≤ length values.operands → count ≤ length (held_of controls values).operands
    → held_of controls (frames.replaced count v values) ≡ replaced count v (held_of controls values)
held_replaced controls values count v h k =
    let n : length (drop count values.operands) ≡ length values.operands - count = length-drop count values.operands in
    let m : length (above (floor_of controls) values.operands) ≡ length values.operands - floor_of controls = length_above (floor_of controls) values.operands h in
    let within : floor_of controls ≤ length (drop count values.operands) = omega (arith, k) in
    held_pushed controls (frames.without count values) v within ∙ ap (λ z. pushed v z) (held_without controls values count h k)

-- ---- blocks and calls

pub held_opened : (controls : List Control) (values : Stack) (again : Place) (loops result : Bool)
    → held_of (control.Label again loops result (length values.operands) ∷ controls) values ≡ opened (count result) (ops_at again) (rest_of loops again) (held_of controls values)
held_opened controls values again loops result =
    let a = above_all values.operands in
    let b = below_all values.operands in
    ap (λ (z : List ℕ). record { operands = z; locals = values.locals; levels = levels_of (control.Label again loops result (length values.operands) ∷ controls) (below (length values.operands) values.operands) values.waiting }) a
    ∙ ap (λ (z : List ℕ). record { operands = []; locals = values.locals; levels = levels_of (control.Label again loops result (length values.operands) ∷ controls) z values.waiting }) b

pub held_called : (controls : List Control) (values : Stack) (rest : Place) (result : Bool) (params more depth : ℕ) → floor_of controls ≤ length values.operands → params ≤ length (held_of controls values).operands
    → held_of (control.Frame rest result depth ∷ controls) (frames.entered params more values) ≡ called params more (count result) (ops_at rest) (held_of controls values)
held_called controls values rest result params more depth h k =
    let a = above_drop (floor_of controls) params values.operands h k in
    let b = below_drop (floor_of controls) params values.operands h k in
    let t = take_above (floor_of controls) params values.operands k in
    ap (λ (z : List ℕ). record { operands = []; locals = reverse (take params values.operands) ++ replicate more 0; levels = frame (count result) values.locals z (ops_at rest) ∷ levels_of controls (below (floor_of controls) (drop params values.operands)) values.waiting }) a
    ∙ ap (λ (z : List ℕ). record { operands = []; locals = reverse (take params values.operands) ++ replicate more 0; levels = frame (count result) values.locals (drop params (above (floor_of controls) values.operands)) (ops_at rest) ∷ levels_of controls z values.waiting }) b
    ∙ ap (λ (z : List ℕ). record { operands = []; locals = reverse z ++ replicate more 0; levels = frame (count result) values.locals (drop params (above (floor_of controls) values.operands)) (ops_at rest) ∷ levels_of controls (below (floor_of controls) values.operands) values.waiting }) (sym t)

-- ---- ends

pub label_left : (outer : List Control) (values : Stack) (again : Place) (loops result : Bool) (height : ℕ) → height ≤ length values.operands → floor_of outer ≤ height
    → Leaves (running no_ops (held_of (control.Label again loops result height ∷ outer) values)) (running (rest_of loops again) (held_of outer values))
label_left outer values again loops result height h k =
    let n : length (below height values.operands) ≡ height = length_below height values.operands h in
    let within : floor_of outer ≤ length (below height values.operands) = omega arith in
    let whole = above_below height values.operands in
    let a : above (floor_of outer) values.operands ≡ above height values.operands ++ above (floor_of outer) (below height values.operands) =
    ap (λ z. above (floor_of outer) z) (sym whole) ∙ above_append (floor_of outer) (above height values.operands) (below height values.operands) within in
    let b : below (floor_of outer) values.operands ≡ below (floor_of outer) (below height values.operands) =
    ap (λ z. below (floor_of outer) z) (sym whole) ∙ below_append (floor_of outer) (above height values.operands) (below height values.operands) within in
    let P : List ℕ → List ℕ → Type 0 = λ z w. Leaves (running no_ops (held_of (control.Label again loops result height ∷ outer) values))
    (record { code = rest_of loops again; operands = z; locals = values.locals; levels = levels_of outer w values.waiting }) in
    subst (λ (w : List ℕ). P (above (floor_of outer) values.operands) w) (sym b) (subst (λ (z : List ℕ). P z (below (floor_of outer) (below height values.operands))) (sym a) leaves_label)

-- the results on the operands of the caller
pub joined : (outer : List Control) (xs ys : List ℕ) (locals : List ℕ) (waiting : List Waiting) → floor_of outer ≤ length ys
    → held_of outer (record { locals = locals; operands = xs ++ ys; waiting = waiting })
    ≡ record { operands = xs ++ above (floor_of outer) ys; locals = locals; levels = levels_of outer (below (floor_of outer) ys) waiting }
joined outer xs ys locals waiting h =
    ap (λ (z : List ℕ). record { operands = z; locals = locals; levels = levels_of outer (below (floor_of outer) (xs ++ ys)) waiting }) (above_append (floor_of outer) xs ys h)
    ∙ ap (λ (z : List ℕ). record { operands = xs ++ above (floor_of outer) ys; locals = locals; levels = levels_of outer z waiting }) (below_append (floor_of outer) xs ys h)

-- A frame is left at its end, where its results are all that stands on its operands.
pub record FrameLeft (outer : List Control) (values : Stack) (rest : Place) (result : Bool) (depth : ℕ) : Type 0 where
  pub waits : 0 < length values.waiting
  pub sound : AreControls outer (length (frames.left (count result) values).operands) (frames.left (count result) values).waiting depth
  pub goes : Leaves (running no_ops (held_of (control.Frame rest result depth ∷ outer) values)) (running (ops_at rest) (held_of outer (frames.left (count result) values)))

pub frame_left_by : (outer : List Control) (ops locals : List ℕ) (waiting : List Waiting) (now : ℕ) (rest : Place) (result : Bool) (depth : ℕ)
    → AreControls (control.Frame rest result depth ∷ outer) (length ops) waiting now → length ops ≡ count result
    → FrameLeft outer (record { locals = locals; operands = ops; waiting = waiting }) rest result depth
frame_left_by outer ops locals [] now rest result depth sound e = elim sound [ ]
frame_left_by outer ops locals (caller ∷ waiting) now rest result depth (one_frame k) e =
    let t : take (count result) ops ≡ ops = ap (λ n. take n ops) (sym e) ∙ take-length ops in
    let o : floor_of outer ≤ length caller.operands = floor_within outer (length caller.operands) waiting depth k in
    let j = joined outer (take (count result) ops) caller.operands caller.locals waiting o in
    let grown : length caller.operands ≤ length (take (count result) ops ++ caller.operands) = omega (arith, length-append (take (count result) ops) caller.operands) in
    let P : Held → Type 0 = λ z. Leaves (running no_ops (held_of (control.Frame rest result depth ∷ outer) (record { locals = locals; operands = ops; waiting = caller ∷ waiting }))) (running (ops_at rest) z) in
    let Q : List ℕ → List ℕ → Type 0 = λ y z. Leaves (record { code = no_ops; operands = y; locals = locals; levels = frame (count result) caller.locals (above (floor_of outer) caller.operands) (ops_at rest) ∷ levels_of outer (below (floor_of outer) caller.operands) waiting })
    (record { code = ops_at rest; operands = z ++ above (floor_of outer) caller.operands; locals = caller.locals; levels = levels_of outer (below (floor_of outer) caller.operands) waiting }) in
    let plain : Q ops ops = leaves_frame in
    record {
      waits = omega arith;
      sound = on_floor outer (length caller.operands) (length (take (count result) ops ++ caller.operands)) waiting depth (omega (arith, o, grown)) k;
      goes = subst P (sym j) (subst (λ (z : List ℕ). Q (above 0 ops) z) (sym t) (subst (λ (y : List ℕ). Q y ops) (sym (above_none ops)) plain));
    }

-- ---- what the vectors keep

-- with more operands, or fewer above the floor
sound_on : (controls : List Control) (values new : Stack) (depth : ℕ) → new.waiting ≡ values.waiting → floor_of controls ≤ length new.operands
    → AreControls controls (length values.operands) values.waiting depth → AreControls controls (length new.operands) new.waiting depth
sound_on controls values new depth e low h =
    subst (λ (z : List Waiting). AreControls controls (length new.operands) z depth) (sym e) (on_floor controls (length values.operands) (length new.operands) values.waiting depth low h)

pub sound_pushed : (controls : List Control) (values new : Stack) (v depth : ℕ) (pushes : Bool) → new ≡ cond pushes (frames.pushed v values) values
    → AreControls controls (length values.operands) values.waiting depth → AreControls controls (length new.operands) new.waiting depth
sound_pushed controls values new v depth true e h =
    let low = floor_within controls (length values.operands) values.waiting depth h in
    subst (λ (z : Stack). AreControls controls (length z.operands) z.waiting depth) (sym e) (sound_on controls values (frames.pushed v values) depth refl (omega (arith, low)) h)
sound_pushed controls values new v depth false e h = subst (λ (z : Stack). AreControls controls (length z.operands) z.waiting depth) (sym e) h

pub sound_without : (controls : List Control) (values new : Stack) (count depth : ℕ) → new ≡ frames.without count values → count ≤ length (held_of controls values).operands
    → AreControls controls (length values.operands) values.waiting depth → AreControls controls (length new.operands) new.waiting depth
sound_without controls values new count depth e within h =
    let low = floor_within controls (length values.operands) values.waiting depth h in
    let m = length_above (floor_of controls) values.operands low in
    let n = length-drop count values.operands in
    subst (λ (z : Stack). AreControls controls (length z.operands) z.waiting depth) (sym e) (sound_on controls values (frames.without count values) depth refl (omega (arith, low, m, n, within)) h)

pub sound_replaced : (controls : List Control) (values new : Stack) (count v depth : ℕ) → new ≡ frames.replaced count v values → count ≤ length (held_of controls values).operands
    → AreControls controls (length values.operands) values.waiting depth → AreControls controls (length new.operands) new.waiting depth
sound_replaced controls values new count v depth e within h =
    let low = floor_within controls (length values.operands) values.waiting depth h in
    let m = length_above (floor_of controls) values.operands low in
    let n = length-drop count values.operands in
    subst (λ (z : Stack). AreControls controls (length z.operands) z.waiting depth) (sym e) (sound_on controls values (frames.replaced count v values) depth refl (omega (arith, low, m, n, within)) h)

pub sound_empty : (items : List Control) (values : Stack) → items ≡ [] → values ≡ frames.empty → AreControls (reverse items) (length values.operands) values.waiting 0
sound_empty items values e f =
    subst (λ (z : List Control). AreControls (reverse z) (length values.operands) values.waiting 0) (sym e) (subst (λ (z : Stack). AreControls [] (length z.operands) z.waiting 0) (sym f) no_controls)

-- the last of a vector is the innermost
pub turned : (items new : List Control) (last : Control) → new ≡ items ++ last ∷ [] → reverse new ≡ last ∷ reverse items
turned items new last e = ap reverse e ∙ reverse-append items (last ∷ [])

pub sound_opened : (items new : List Control) (values : Stack) (depth : ℕ) (again : Place) (loops result : Bool) (height : ℕ) → height ≡ length values.operands
    → new ≡ items ++ control.Label again loops result height ∷ [] → AreControls (reverse items) (length values.operands) values.waiting depth
    → AreControls (reverse new) (length values.operands) values.waiting (depth + 1)
sound_opened items new values depth again loops result height n e h =
    let at : AreControls (reverse items) height values.waiting depth = subst (λ (z : ℕ). AreControls (reverse items) z values.waiting depth) (sym n) h in
    let low : height ≤ length values.operands = omega (arith, n) in
    subst (λ (z : List Control). AreControls z (length values.operands) values.waiting (depth + 1)) (sym (turned items new (control.Label again loops result height) e)) (one_label low at)

pub few_labels : (controls : List Control) (count : ℕ) (waiting : List Waiting) (depth : ℕ) → AreControls controls count waiting depth → depth ≤ length controls
few_labels [] count [] depth no_controls = omega arith
few_labels [] count (caller ∷ waiting) depth h = elim h [ ]
few_labels (control.Label again loops result height ∷ outer) count waiting depth (one_label {depth = d} h k) = let few = few_labels outer height waiting d k in omega arith
few_labels (control.Frame rest result d ∷ outer) count [] depth h = elim h [ ]
few_labels (control.Frame rest result d ∷ outer) count (caller ∷ waiting) depth (one_frame k) = omega arith

-- what a call answered, and so made
pub entered_so : (b : Bool) (new made old : Stack) → b ≡ true → new ≡ cond b made old → new ≡ made
entered_so true new made old t e = e
entered_so false new made old t e = absurd (cc)

pub sound_called : (items new : List Control) (values after : Stack) (params more depth : ℕ) (rest : Place) (result : Bool)
    → after ≡ frames.entered params more values → new ≡ items ++ control.Frame rest result depth ∷ [] → params ≤ length (held_of (reverse items) values).operands
    → AreControls (reverse items) (length values.operands) values.waiting depth
    → AreControls (reverse new) (length after.operands) after.waiting 0
sound_called items new values after params more depth rest result f e within h =
    let low = floor_within (reverse items) (length values.operands) values.waiting depth h in
    let m = length_above (floor_of (reverse items)) values.operands low in
    let n = length-drop params values.operands in
    let under : AreControls (reverse items) (length (drop params values.operands)) values.waiting depth =
    on_floor (reverse items) (length values.operands) (length (drop params values.operands)) values.waiting depth (omega (arith, low, m, n, within)) h in
    let there : AreControls (control.Frame rest result depth ∷ reverse items) 0 (record { locals = values.locals; operands = drop params values.operands } ∷ values.waiting) 0 = one_frame under in
    subst (λ (z : List Control). AreControls z (length after.operands) after.waiting 0) (sym (turned items new (control.Frame rest result depth) e))
    (subst (λ (z : Stack). AreControls (control.Frame rest result depth ∷ reverse items) (length z.operands) z.waiting 0) (sym f) there)

-- a block at its end
pub sound_label_left : (outer : List Control) (values : Stack) (depth : ℕ) (again : Place) (loops result : Bool) (height : ℕ)
    → AreControls (control.Label again loops result height ∷ outer) (length values.operands) values.waiting depth
    → AreControls outer (length values.operands) values.waiting (depth - 1) × (height ≤ length values.operands) × (floor_of outer ≤ height) × (0 < depth)
sound_label_left outer values depth again loops result height (one_label {depth = d} h k) =
    let low = floor_within outer height values.waiting d k in
    let e : d ≡ (d + 1) - 1 = omega arith in
    (subst (λ (n : ℕ). AreControls outer (length values.operands) values.waiting n) e (on_floor outer height (length values.operands) values.waiting d (omega (arith, low, h)) k), h, low, omega arith)

-- ---- ends, as the code makes them

pub byte_count : (b : Bool) → bool_byte b ≡ count b
byte_count true = refl
byte_count false = refl

-- the innermost is taken off a vector
pub sound_popped : (all rest : List Control) (last : Control) (held : ℕ) (waiting : List Waiting) (depth : ℕ) → all ≡ rest ++ last ∷ []
    → AreControls (reverse all) held waiting depth → AreControls (last ∷ reverse rest) held waiting depth
sound_popped all rest last held waiting depth e h = subst (λ (z : List Control). AreControls z held waiting depth) (turned rest all last e) h

-- at the end of a frame its results are all operands
pub end_of_frame : (outer : List Control) (ops locals : List ℕ) (waiting : List Waiting) (now : ℕ) (rest : Place) (result : Bool) (depth : ℕ)
    → AreControls (control.Frame rest result depth ∷ outer) (length ops) waiting now
    → IsAtEnd (held_of (control.Frame rest result depth ∷ outer) (record { locals = locals; operands = ops; waiting = waiting }))
    → length ops ≡ count result
end_of_frame outer ops locals [] now rest result depth sound e = elim sound [ ]
end_of_frame outer ops locals (caller ∷ waiting) now rest result depth sound e =
    sym (ap length (above_none ops)) ∙ (e (count result) caller.locals (above (floor_of outer) caller.operands) (ops_at rest) (levels_of outer (below (floor_of outer) caller.operands) waiting) refl).0
