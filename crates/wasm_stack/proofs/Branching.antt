-- Where branches lead.
use Rattle.std.proofs.Common.{◌≡◌, ℕ, zero, suc, Bool, ◌+◌, ◌-◌, ◌<◌, ◌≤◌, List, [], ◌∷◌, ◌++◌, length, take, drop, Some, slice_get, get_or, reverse, refl, ap, sym, ◌∙◌, subst, arith, length-append, length-drop}
use Rattle.std.proofs.lemmas.List.{take-append-drop, reverse-append, length-reverse, get_or-reverse}
use Rattle.std.proofs.lemmas.Option.{slice_get_read}
use Rattle.std.proofs.Math.Seq.{drop-append_seam}
use Rattle.wasm_values.specs.Syntax.{Ops}
use Rattle.wasm_steps.specs.Threads.{Level, Thread, label, frame, Branches, branches_here, branches_out, branches_further}
use Rattle.wasm_soundness.specs.Ready.{level_of, results_at}
use Rattle.call_frames.specs.Stack.{Stack, Waiting}
use Rattle.call_frames.specs.Stack as frames
use Rattle.wasm_stack.specs.Held.{Held, running}
use Rattle.wasm_stack.specs.View.{ops_at, rest_of, count, floor_of, above, below, levels_of, held_of, AreControls, one_label, one_frame}
use Rattle.wasm_stack.specs.declared.place.Place.{Place}
use Rattle.wasm_stack.specs.declared.control.Control.{Control}
use Rattle.wasm_stack.specs.declared.control.Control.TheVariants as control
use Rattle.wasm_stack.proofs.Floors.{length_above, length_below, below_all, below_below, take_above}
use Rattle.wasm_stack.proofs.Levels.{floor_within, on_floor, joined}

-- The blocks and frames stand on no more operands than their floor.
at_floor : (controls : List Control) (held : ℕ) (waiting : List Waiting) (depth n : ℕ) → n ≡ floor_of controls → AreControls controls held waiting depth → AreControls controls n waiting depth
at_floor controls held waiting depth n e h = on_floor controls held n waiting depth (omega arith) h

-- the thread with these levels
abbrev thread_of : Ops → List ℕ → List ℕ → List Level → Thread
thread_of code operands locals levels = record { code = code; operands = operands; locals = locals; levels = levels }

-- A branch to a block, seen from the operands below the innermost one.
record LabelReached (to : ℕ) (controls : List Control) (under : List ℕ) (waiting : List Waiting) (depth : ℕ) (again : Place) (loops result : Bool) (height : ℕ) (level : Level) : Type 0 where
  left : ℕ
  counted : depth ≡ left + suc to
  sound : AreControls (drop (suc to) controls) height waiting left
  within : height ≤ length under
  known : results_at level ≡ count result
  goes : (code : Ops) (top locals : List ℕ) → Branches to (thread_of code top locals (levels_of controls under waiting))
      (thread_of (ops_at again) (take (count result) top ++ above (floor_of (drop (suc to) controls)) (below height under)) locals (levels_of (drop (suc to) controls) (below (floor_of (drop (suc to) controls)) (below height under)) waiting))

label_same : {one two : Control} → Some one ≡ Some two → one ≡ two
label_same e = cc

label_here : (outer : List Control) (under : List ℕ) (waiting : List Waiting) (d : ℕ) (again : Place) (loops result : Bool) (height : ℕ) (level : Level)
    → length under ≡ height → AreControls outer height waiting d
    → level ≡ label (count result) (ops_at again) (above (floor_of outer) under) (rest_of loops again)
    → LabelReached 0 (control.Label again loops result height ∷ outer) under waiting (d + 1) again loops result height level
label_here outer under waiting d again loops result height level n k e = record {
  left = d;
  counted = omega arith;
  sound = k;
  within = omega arith;
  known = ap results_at e;
  goes = λ code top locals.
      let same : below height under ≡ under = ap (λ z. below z under) (sym n) ∙ below_all under in
      subst (λ (z : List ℕ). Branches 0 (thread_of code top locals (levels_of (control.Label again loops result height ∷ outer) under waiting))
      (thread_of (ops_at again) (take (count result) top ++ above (floor_of outer) z) locals (levels_of outer (below (floor_of outer) z) waiting))) (sym same) branches_here;
}

label_further : (to : ℕ) (outer : List Control) (under : List ℕ) (waiting : List Waiting) (d : ℕ) (first : Place) (a r : Bool) (h : ℕ) (again : Place) (loops result : Bool) (height : ℕ) (level : Level)
    → length under ≡ h → floor_of outer ≤ h
    → LabelReached to outer (below (floor_of outer) under) waiting d again loops result height level
    → LabelReached (suc to) (control.Label first a r h ∷ outer) under waiting (d + 1) again loops result height level
label_further to outer under waiting d first a r h again loops result height level n k inner =
    let m : length (below (floor_of outer) under) ≡ floor_of outer = length_below (floor_of outer) under (omega arith) in
    let low : height ≤ floor_of outer = omega (arith, inner.within) in
    let same : below height (below (floor_of outer) under) ≡ below height under = below_below (floor_of outer) height under low (omega arith) in
    record {
      left = inner.left;
      counted = omega (arith, inner.counted);
      sound = inner.sound;
      within = omega arith;
      known = inner.known;
      goes = λ code top locals.
          branches_further (subst (λ (z : List ℕ). Branches to (thread_of code top locals (levels_of outer (below (floor_of outer) under) waiting))
          (thread_of (ops_at again) (take (count result) top ++ above (floor_of (drop (suc to) outer)) z) locals (levels_of (drop (suc to) outer) (below (floor_of (drop (suc to) outer)) z) waiting))) same (inner.goes code top locals));
    }

label_reached : (to : ℕ) (controls : List Control) (under : List ℕ) (waiting : List Waiting) (depth : ℕ) (again : Place) (loops result : Bool) (height : ℕ) (level : Level)
    → floor_of controls ≡ length under → AreControls controls (length under) waiting depth
    → level_of to (levels_of controls under waiting) ≡ Some level → slice_get controls to ≡ Some (control.Label again loops result height)
    → LabelReached to controls under waiting depth again loops result height level
label_reached to [] under waiting depth again loops result height level n sound e s = absurd (cc)
label_reached zero (control.Label first a r h ∷ outer) under waiting depth again loops result height level n (one_label {depth = d} within k) e s =
    let same : control.Label first a r h ≡ control.Label again loops result height = label_same s in
    let stands : h ≡ height = cc in
    let there : AreControls outer height waiting d = subst (λ (z : ℕ). AreControls outer z waiting d) stands k in
    let low : length under ≡ height = cc in
    let known : level ≡ label (count result) (ops_at again) (above (floor_of outer) under) (rest_of loops again) = cc in
    let found : LabelReached 0 (control.Label again loops result height ∷ outer) under waiting (d + 1) again loops result height level =
    label_here outer under waiting d again loops result height level low there known in
    subst (λ (z : Control). LabelReached 0 (z ∷ outer) under waiting (d + 1) again loops result height level) (sym same) found
label_reached (suc to) (control.Label first a r h ∷ outer) under waiting depth again loops result height level n (one_label {depth = d} within k) e s =
    let f : floor_of outer ≤ h = floor_within outer h waiting d k in
    let m : length (below (floor_of outer) under) ≡ floor_of outer = length_below (floor_of outer) under (omega arith) in
    label_further to outer under waiting d first a r h again loops result height level (sym n) f
    (label_reached to outer (below (floor_of outer) under) waiting d again loops result height level (sym m) (at_floor outer h waiting d (length (below (floor_of outer) under)) m k) e s)
label_reached zero (control.Frame first r d ∷ outer) under waiting depth again loops result height level n sound e s = absurd (cc)
label_reached (suc to) (control.Frame first r d ∷ outer) under [] depth again loops result height level n sound e s = elim sound [ ]
label_reached (suc to) (control.Frame first r d ∷ outer) under (caller ∷ waiting) depth again loops result height level n sound e s = absurd (cc)

-- A branch out of a function.
record FrameReached (to : ℕ) (controls : List Control) (under : List ℕ) (waiting : List Waiting) (rest : Place) (result : Bool) (depth : ℕ) (level : Level) : Type 0 where
  caller : Waiting
  more : List Waiting
  waits : waiting ≡ caller ∷ more
  sound : AreControls (drop (suc to) controls) (length caller.operands) more depth
  known : results_at level ≡ count result
  goes : (code : Ops) (top locals : List ℕ) → Branches to (thread_of code top locals (levels_of controls under waiting))
      (thread_of (ops_at rest) (take (count result) top ++ above (floor_of (drop (suc to) controls)) caller.operands) caller.locals (levels_of (drop (suc to) controls) (below (floor_of (drop (suc to) controls)) caller.operands) more))

frame_further : (to : ℕ) (outer : List Control) (under : List ℕ) (waiting : List Waiting) (first : Place) (a r : Bool) (h : ℕ) (rest : Place) (result : Bool) (depth : ℕ) (level : Level)
    → FrameReached to outer (below (floor_of outer) under) waiting rest result depth level
    → FrameReached (suc to) (control.Label first a r h ∷ outer) under waiting rest result depth level
frame_further to outer under waiting first a r h rest result depth level inner = record {
  caller = inner.caller;
  more = inner.more;
  waits = inner.waits;
  sound = inner.sound;
  known = inner.known;
  goes = λ code top locals. branches_further (inner.goes code top locals);
}

frame_reached : (to : ℕ) (controls : List Control) (under : List ℕ) (waiting : List Waiting) (now : ℕ) (rest : Place) (result : Bool) (depth : ℕ) (level : Level)
    → floor_of controls ≤ length under → AreControls controls (length under) waiting now
    → level_of to (levels_of controls under waiting) ≡ Some level → slice_get controls to ≡ Some (control.Frame rest result depth)
    → FrameReached to controls under waiting rest result depth level
frame_reached to [] under waiting now rest result depth level n sound e s = absurd (cc)
frame_reached zero (control.Label first a r h ∷ outer) under waiting now rest result depth level n sound e s = absurd (cc)
frame_reached (suc to) (control.Label first a r h ∷ outer) under waiting now rest result depth level n (one_label {depth = d} within k) e s =
    let f : floor_of outer ≤ h = floor_within outer h waiting d k in
    let m : length (below (floor_of outer) under) ≡ floor_of outer = length_below (floor_of outer) under (omega arith) in
    frame_further to outer under waiting first a r h rest result depth level
    (frame_reached to outer (below (floor_of outer) under) waiting d rest result depth level (omega arith) (at_floor outer h waiting d (length (below (floor_of outer) under)) m k) e s)
frame_reached zero (control.Frame first r d ∷ outer) under [] now rest result depth level n sound e s = elim sound [ ]
frame_reached zero (control.Frame first r d ∷ outer) under (caller ∷ waiting) now rest result depth level n (one_frame k) e s =
    let same : control.Frame first r d ≡ control.Frame rest result depth = label_same s in
    let found : FrameReached 0 (control.Frame first r d ∷ outer) under (caller ∷ waiting) first r d level = record {
      caller = caller;
      more = waiting;
      waits = refl;
      sound = k;
      known = cc;
      goes = λ code top locals. branches_out;
    } in
    let one : first ≡ rest = cc in
    let two : r ≡ result = cc in
    let three : d ≡ depth = cc in
    subst (λ (z : ℕ). FrameReached 0 (control.Frame first r d ∷ outer) under (caller ∷ waiting) rest result z level) three
    (subst (λ (z : Bool). FrameReached 0 (control.Frame first r d ∷ outer) under (caller ∷ waiting) rest z d level) two
    (subst (λ (z : Place). FrameReached 0 (control.Frame first r d ∷ outer) under (caller ∷ waiting) z r d level) one found))
frame_reached (suc to) (control.Frame first r d ∷ outer) under [] now rest result depth level n sound e s = elim sound [ ]
frame_reached (suc to) (control.Frame first r d ∷ outer) under (caller ∷ waiting) now rest result depth level n sound e s = absurd (cc)

-- ---- as the code makes them

-- A branch to a block, with its results put on the operands below it.
pub record LabelBranched (to : ℕ) (controls : List Control) (values : Stack) (depth : ℕ) (again : Place) (loops result : Bool) (height : ℕ) : Type 0 where
  pub room : height + count result ≤ length values.operands
  pub counted : suc to ≤ depth
  pub sound : AreControls (drop (suc to) controls) (length (frames.cut height (count result) values).operands) values.waiting (depth - suc to)
  pub goes : (code : Ops) → Branches to (running code (held_of controls values)) (running (ops_at again) (held_of (drop (suc to) controls) (frames.cut height (count result) values)))

pub label_branched : (to : ℕ) (controls : List Control) (values : Stack) (depth : ℕ) (again : Place) (loops result : Bool) (height : ℕ) (level : Level)
    → AreControls controls (length values.operands) values.waiting depth
    → level_of to (held_of controls values).levels ≡ Some level → results_at level ≤ length (held_of controls values).operands
    → slice_get controls to ≡ Some (control.Label again loops result height)
    → LabelBranched to controls values depth again loops result height
label_branched to controls values depth again loops result height level sound e there s =
    let ops = values.operands in
    let floor = floor_of controls in
    let f : floor ≤ length ops = floor_within controls (length ops) values.waiting depth sound in
    let under : List ℕ = below floor ops in
    let m : length under ≡ floor = length_below floor ops f in
    let found : LabelReached to controls under values.waiting depth again loops result height level =
    label_reached to controls under values.waiting depth again loops result height level (sym m) (at_floor controls (length ops) values.waiting depth (length under) m sound) e s in
    let low : height ≤ floor = omega (arith, found.within) in
    let same : below height under ≡ below height ops = below_below floor height ops low f in
    let few : count result ≤ length (above floor ops) = omega (arith, found.known) in
    let all : length (above floor ops) ≡ length ops - floor = length_above floor ops f in
    let outer : List Control = drop (suc to) controls in
    let o : floor_of outer ≤ height = floor_within outer height values.waiting found.left found.sound in
    let n : length (below height ops) ≡ height = length_below height ops (omega arith) in
    let w : floor_of outer ≤ length (below height ops) = omega arith in
    let t : take (count result) (above floor ops) ≡ take (count result) ops = take_above floor (count result) ops few in
    let j = joined outer (take (count result) ops) (below height ops) values.locals values.waiting w in
    let grown : height ≤ length (take (count result) ops ++ below height ops) = omega (arith, length-append (take (count result) ops) (below height ops)) in
    let counted : depth ≡ found.left + suc to = found.counted in
    let remains : found.left ≡ depth - suc to = omega arith in
    record {
      room = omega arith;
      counted = omega arith;
      sound = subst (λ (z : ℕ). AreControls outer (length (take (count result) ops ++ below height ops)) values.waiting z) remains (on_floor outer height (length (take (count result) ops ++ below height ops)) values.waiting found.left (omega (arith, o, grown)) found.sound);
      goes = λ code.
          let P : Held → Type 0 = λ z. Branches to (running code (held_of controls values)) (running (ops_at again) z) in
          let Q : List ℕ → List ℕ → Type 0 = λ z y. Branches to (running code (held_of controls values))
          (thread_of (ops_at again) (z ++ above (floor_of outer) y) values.locals (levels_of outer (below (floor_of outer) y) values.waiting)) in
          subst P (sym j) (subst (λ (z : List ℕ). Q z (below height ops)) t (subst (λ (y : List ℕ). Q (take (count result) (above floor ops)) y) same (found.goes code (above floor ops) values.locals)));
    }

-- A branch out of the function, with its results put on the operands of the caller.
pub record FrameBranched (to : ℕ) (controls : List Control) (values : Stack) (rest : Place) (result : Bool) (depth : ℕ) : Type 0 where
  pub waits : 0 < length values.waiting
  pub room : count result ≤ length values.operands
  pub sound : AreControls (drop (suc to) controls) (length (frames.left (count result) values).operands) (frames.left (count result) values).waiting depth
  pub goes : (code : Ops) → Branches to (running code (held_of controls values)) (running (ops_at rest) (held_of (drop (suc to) controls) (frames.left (count result) values)))

pub frame_branched : (to : ℕ) (controls : List Control) (values : Stack) (now : ℕ) (rest : Place) (result : Bool) (depth : ℕ) (level : Level)
    → AreControls controls (length values.operands) values.waiting now
    → level_of to (held_of controls values).levels ≡ Some level → results_at level ≤ length (held_of controls values).operands
    → slice_get controls to ≡ Some (control.Frame rest result depth)
    → FrameBranched to controls values rest result depth
frame_branched to controls values now rest result depth level sound e there s =
    let ops = values.operands in
    let floor = floor_of controls in
    let f : floor ≤ length ops = floor_within controls (length ops) values.waiting now sound in
    let under : List ℕ = below floor ops in
    let m : length under ≡ floor = length_below floor ops f in
    let found : FrameReached to controls under values.waiting rest result depth level =
    frame_reached to controls under values.waiting now rest result depth level (omega arith) (at_floor controls (length ops) values.waiting now (length under) m sound) e s in
    let few : count result ≤ length (above floor ops) = omega (arith, found.known) in
    let outer : List Control = drop (suc to) controls in
    let t : take (count result) (above floor ops) ≡ take (count result) ops = take_above floor (count result) ops few in
    let o : floor_of outer ≤ length found.caller.operands = floor_within outer (length found.caller.operands) found.more depth found.sound in
    let j = joined outer (take (count result) ops) found.caller.operands found.caller.locals found.more o in
    let after : frames.left (count result) values ≡ record { locals = found.caller.locals; operands = take (count result) ops ++ found.caller.operands; waiting = found.more } =
    ap (λ (z : List Waiting). frames.onto (take (count result) ops) z values) found.waits in
    let back : record { locals = found.caller.locals; operands = take (count result) ops ++ found.caller.operands; waiting = found.more } ≡ frames.left (count result) values = sym after in
    let grown : length found.caller.operands ≤ length (take (count result) ops ++ found.caller.operands) = omega (arith, length-append (take (count result) ops) found.caller.operands) in
    let waits : length values.waiting ≡ suc (length found.more) = ap length found.waits in
    record {
      waits = omega arith;
      room = omega (arith, few, length_above floor ops f);
      sound = subst (λ (z : Stack). AreControls outer (length z.operands) z.waiting depth) back (on_floor outer (length found.caller.operands) (length (take (count result) ops ++ found.caller.operands)) found.more depth (omega (arith, o, grown)) found.sound);
      goes = λ code.
          let Q : List ℕ → Type 0 = λ z. Branches to (running code (held_of controls values))
          (thread_of (ops_at rest) (z ++ above (floor_of outer) found.caller.operands) found.caller.locals (levels_of outer (below (floor_of outer) found.caller.operands) found.more)) in
          let P : Held → Type 0 = λ z. Branches to (running code (held_of controls values)) (running (ops_at rest) z) in
          let there : P (held_of outer (record { locals = found.caller.locals; operands = take (count result) ops ++ found.caller.operands; waiting = found.more })) = subst P (sym j) (subst Q t (found.goes code (above floor ops) values.locals)) in
          subst (λ (z : Stack). P (held_of outer z)) back there;
    }

-- ---- the vector of blocks and frames, whose innermost is the last

pub level_within : (to : ℕ) (levels : List Level) (level : Level) → level_of to levels ≡ Some level → to < length levels
level_within to [] level e = absurd (cc)
level_within zero (one ∷ levels) level e = omega arith
level_within (suc to) (label results again under rest ∷ levels) level e = let k : to < length levels = level_within to levels level e in omega arith
level_within (suc to) (frame results locals under rest ∷ levels) level e = absurd (cc)

pub target_at : (items : List Control) (to index : ℕ) (x : Control) → index + suc to ≡ length items → x ≡ get_or items index x → slice_get (reverse items) to ≡ Some x
target_at items to index x e is =
    let n = length-reverse items in
    let same : length items - 1 - to ≡ index = omega arith in
    let found : x ≡ get_or (reverse items) to x = is ∙ ap (λ k. get_or items k x) (sym same) ∙ sym (get_or-reverse items to x (omega arith)) in
    slice_get_read (reverse items) (length (reverse items)) to x refl (omega (arith, n)) found

pub kept_below : (items : List Control) (to index : ℕ) → index + suc to ≡ length items → reverse (take index items) ≡ drop (suc to) (reverse items)
kept_below items to index e =
    let whole : reverse items ≡ reverse (drop index items) ++ reverse (take index items) = ap reverse (sym (take-append-drop index items)) ∙ reverse-append (take index items) (drop index items) in
    let n : length (reverse (drop index items)) ≡ suc to = omega (arith, length-reverse (drop index items), length-drop index items) in
    sym (ap (λ z. drop (suc to) z) whole ∙ ap (λ k. drop k (reverse (drop index items) ++ reverse (take index items))) (sym n) ∙ drop-append_seam (reverse (drop index items)) (reverse (take index items)))
