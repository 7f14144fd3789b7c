-- The modules as they are kept, and the finite map of their bytes.
use Rattle.std.proofs.Common.{Less, Equal, Greater, ◌≡◌, ℕ, Bool, true, false, cond, List, [], ◌∷◌, Option, Some, option_map, refl, sym, ap, subst, ◌∙◌}
use Rattle.std.specs.BTreeMap.{insert_entry, is_at}
use Rattle.std.specs.Cmp.{nat_cmp_total, eq_by_cmp_equiv}
use Rattle.std.specs.FinMap.{find, get, insert, get-insert, get-from_entries, same_map, nat_cmp-IsAntisymmetric}
use Rattle.std.specs.Map.{lookup}
use Rattle.std.specs.Option.{IfSome}
use Rattle.std.proofs.lemmas.List.Elements.{All-from_recursion}
use Rattle.std.proofs.lemmas.Map.Entries.{All-lookup}
use Rattle.std.specs.Ordering.{eq_by_cmp, match_ordering, nat_cmp}
use Rattle.wasm_link.specs.Kept.{link_view}
use Rattle.player_run.specs.Admission.{Accepts}
use Rattle.hosted_tick.specs.declared.modules.HostedModule.{HostedModule}
use Rattle.hosted_tick.specs.Hosting.{AreLinked, Kept, bytes_of, modules_of}

abbrev pub bytes_in : HostedModule → List ℕ
bytes_in hosted = hosted.bytes

-- the kept module of a player
abbrev pub kept_of : ℕ → Kept → Option HostedModule
kept_of player kept = lookup (is_at (nat_cmp player)) kept

find_bytes : (player : ℕ) (kept : Kept) → find nat_cmp player (bytes_of kept) ≡ option_map bytes_in (kept_of player kept)
find_bytes player [] = refl
find_bytes player (e ∷ kept) =
    let rest = find_bytes player kept in
    elim (eq_by_cmp nat_cmp player e.0) as (λ b. cond b (Some (e.1).bytes) (find nat_cmp player (bytes_of kept)) ≡ option_map bytes_in (cond b (Some e.1) (kept_of player kept))) [ true ↦ refl | false ↦ rest ]

pub get_bytes : (player : ℕ) (kept : Kept) → get (modules_of kept) player ≡ option_map bytes_in (kept_of player kept)
get_bytes player kept = get-from_entries nat_cmp_total (bytes_of kept) player ∙ find_bytes player kept

mapped : (b : Bool) (hosted : HostedModule) (o : Option HostedModule) → option_map bytes_in (cond b (Some hosted) o) ≡ cond b (Some hosted.bytes) (option_map bytes_in o)
mapped true hosted o = refl
mapped false hosted o = refl

-- where a module was put in at a player's key
pub modules_put : (kept after : Kept) (player : ℕ) (hosted : HostedModule) → ((q : ℕ) → kept_of q after ≡ cond (is_at (nat_cmp player) q) (Some hosted) (kept_of q kept))
    → modules_of after ≡ insert (modules_of kept) player hosted.bytes
modules_put kept after player hosted put =
    same_map nat_cmp_total nat_cmp-IsAntisymmetric (modules_of after) (insert (modules_of kept) player hosted.bytes) (λ q.
    get_bytes q after ∙ ap (option_map bytes_in) (put q) ∙ mapped (is_at (nat_cmp player) q) hosted (kept_of q kept)
    ∙ ap (λ b. cond b (Some hosted.bytes) (option_map bytes_in (kept_of q kept))) ((eq_by_cmp_equiv nat_cmp_total).symm player q)
    ∙ sym (get-insert nat_cmp_total (modules_of kept) player hosted.bytes q ∙ ap (cond (eq_by_cmp nat_cmp q player) (Some hosted.bytes)) (get_bytes q kept)))

pub linked_put : (kept : Kept) (player : ℕ) (hosted : HostedModule) → AreLinked kept → Accepts hosted.bytes (link_view hosted.linked) → AreLinked (insert_entry nat_cmp kept player hosted)
linked_put [] player hosted all one = (one, tt)
linked_put (e ∷ kept) player hosted all one =
    let rest = linked_put kept player hosted all.1 one in
    elim (nat_cmp player e.0) as (λ r. AreLinked (match_ordering r ((player, hosted) ∷ e ∷ kept) ((e.0, hosted) ∷ kept) (e ∷ insert_entry nat_cmp kept player hosted))) [
      | Less ↦ (one, all)
      | Equal ↦ (one, all.1)
      | Greater ↦ (all.0, rest)
    ]

pub linked_at : (player : ℕ) (kept : Kept) (hosted : HostedModule) → AreLinked kept → kept_of player kept ≡ Some hosted → Accepts hosted.bytes (link_view hosted.linked)
linked_at player kept hosted all is =
    let P : HostedModule → Type 0 = λ h. Accepts h.bytes (link_view h.linked) in
    let found : IfSome (kept_of player kept) P = All-lookup P (is_at (nat_cmp player)) kept (All-from_recursion (λ (e : ℕ × HostedModule). P e.1) kept all) in
    subst (λ (o : Option HostedModule). IfSome o P) is found
