-- A part is written at the first place past the end, and the places after it stay as they were.
use Rattle.std.proofs.Common.{◌≡◌, ℕ, ◌+◌, ◌-◌, ◌<◌, ◌≤◌, List, ◌++◌, length, take, drop, set, replicate, sym, subst, ap, ◌∙◌, arith}
use Rattle.std.proofs.lemmas.List.{take-append-drop, drop-set-lt, drop-drop, drop-replicate, length-set, length-take-le}
use Rattle.std.proofs.lemmas.List.Prefix.{front_rest}
use Rattle.game_tables.specs.declared.kind.Part.{Part}
use Rattle.game_tables.specs.declared.kind.Part.TheVariants.{Move}
use Rattle.game_tables.proofs.body.Body.push.Goals as goal

-- what stands past the end is only `Move`
rest_is : (parts : List Part) (n k : ℕ) → n ≤ length parts → parts ≡ take n parts ++ replicate k Move → drop n parts ≡ replicate k Move
rest_is parts n k fits e =
    let size : length (take n parts) ≡ n = length-take-le n parts fits in
    subst (λ (m : ℕ). drop m parts ≡ replicate k Move) size (front_rest parts (take n parts) (replicate k Move) e)

-- and it is so past a place that was written
after_write : (parts : List Part) (n : ℕ) (part : Part) → n < 50 → length parts ≡ 50 → parts ≡ take n parts ++ replicate (50 - n) Move
    → set parts n part ≡ take (n + 1) (set parts n part) ++ replicate (50 - (n + 1)) Move
after_write parts n part below size e =
    let fits : n ≤ length parts = omega arith in
    let less : n < n + 1 = omega arith in
    let one : drop 1 (replicate (50 - n) Move) ≡ replicate (50 - n - 1) Move = drop-replicate 1 (50 - n) Move in
    let more : drop (n + 1) parts ≡ drop 1 (drop n parts) = sym (drop-drop 1 n parts) in
    let past : drop (n + 1) (set parts n part) ≡ drop (n + 1) parts = drop-set-lt (n + 1) parts n part less in
    let count : 50 - n - 1 ≡ 50 - (n + 1) = omega arith in
    let rest : drop (n + 1) (set parts n part) ≡ replicate (50 - (n + 1)) Move = past ∙ more ∙ ap (drop 1) (rest_is parts n (50 - n) fits e) ∙ one ∙ ap (λ (k : ℕ). replicate k Move) count in
    sym (take-append-drop (n + 1) (set parts n part)) ∙ ap (λ (t : List Part). take (n + 1) (set parts n part) ++ t) rest

pub invariant_of-self : goal.invariant_of-self
invariant_of-self c =
    let held : length (take c.self.inside.len c.self.inside.parts) ≡ c.self.inside.len = length-take-le _ _ c.self.invariant.within in
    let below : c.self.inside.len < 50 = subst (λ (n : ℕ). n < 50) (sym (ap length c.self.view_is) ∙ held) c.requires in
    record {
      within = rw length-set (omega arith);
      places = length-set _ _ _ ∙ c.self.invariant.places;
      rest = after_write _ _ _ below c.self.invariant.places c.self.invariant.rest;
    }
