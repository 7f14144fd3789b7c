-- The rules keep the fields of each object in a file's ranges.
use Rattle.std.proofs.Common.{◌≡◌, ℕ, ◌-◌, ◌/◌, ◌%◌, ◌^◌, ◌<◌, ◌≤◌, Bool, true, false, cond, List, [], ◌∷◌, length, map, Some, None, refl, ap, ◌∙◌, arith, inl, inr, slice_get, sym}
use Rattle.std.specs.List.{AllByRecursion}
use Rattle.std.specs.Ordering.{nat_cmp}
use Rattle.std.specs.Cmp.{unsigned_tied, nat_cmp_total}
use Rattle.std.specs.FinMap.{find, get-from_entries}
use Rattle.std.proofs.lemmas.Bool.{cases_eq, cases_lt, ne_eqb}
use Rattle.std.proofs.lemmas.List.{length-map}
use Rattle.std.proofs.lemmas.Option.{slice_get_past}
use Rattle.game_tables.specs.Bodies.{most_parts}
use Rattle.game_tables.specs.Kinds.{is_in_rules}
use Rattle.game_tables.specs.Limits.{most_rooms, most_objects, most_players}
use Rattle.room_table.specs.declared.object.Object.{Object}
use Rattle.object_store.specs.declared.account.Account.{Account}
use Rattle.object_store.specs.Stored.{Stored}
use Rattle.world_rules.proofs.Rooms.{frame_listed}
use Rattle.world_rules.specs.declared.rule.Rule.TheVariants as rules
use Rattle.world_rules.specs.World.{Frame, ListedRoom, Listing, placed, world_listed, listing_of}
use Rattle.world_rules.specs.Rules.{KeepsRules, HasNoBirth, IsPlayer}
use Rattle.world_form.specs.Written.{IsWritableAccount, IsWritable}
use Rattle.world_form.proofs.Forms.{some_none}
use Rattle.world_form.proofs.Standing.{all_weaker, StandsThere, objects_stand}
use Rattle.world_form.proofs.Ranges.{IsSmall, small_as}

-- The object's fields are in a file's ranges.
pub record IsInFile (o : Object) : Type 0 where
  pub id_low : 1 ≤ o.id
  pub id : o.id ≤ 2 ^ 53
  pub owner : o.owner ≤ 2 ^ 32 - 1
  pub other : o.other ≤ 2 ^ 32 - 1
  pub small : IsSmall o

-- ---- facts that are not false

stable_true : (b : Bool) → ((b ≡ true → ⊥) → ⊥) → b ≡ true
stable_true true held = refl
stable_true false held = absurd (held (λ e. cc))

stable_le : (a b : ℕ) → ((a ≤ b → ⊥) → ⊥) → a ≤ b
stable_le a b held = elim (cases_lt b a) [ inl lt ↦ absurd (held (λ le. omega arith)) | inr le ↦ le ]

stable_small : (o : Object) → ((IsSmall o → ⊥) → ⊥) → IsSmall o
stable_small o held = record {
  in_rules = stable_true (is_in_rules o.kind 1) (λ none. held (λ s. none s.in_rules));
  hits = stable_le o.hits (2 ^ 32 - 1) (λ none. held (λ s. none s.hits));
  energy = stable_le o.energy (2 ^ 53) (λ none. held (λ s. none s.energy));
  timer = stable_le o.timer (2 ^ 32 - 1) (λ none. held (λ s. none s.timer));
  extra = stable_le o.extra (2 ^ 32 - 1) (λ none. held (λ s. none s.extra));
  progress = stable_le o.progress (2 ^ 53) (λ none. held (λ s. none s.progress));
  other_ticks = stable_le o.other_ticks (2 ^ 32 - 1) (λ none. held (λ s. none s.other_ticks));
  body = stable_le (length o.body) most_parts (λ none. held (λ s. none s.body));
}

-- ---- counts

pub few_rooms : (listing : Listing) → KeepsRules listing → length listing.rooms ≤ most_rooms
few_rooms listing keeps = stable_le (length listing.rooms) most_rooms (λ none. keeps rules.Counts 0 (refl, λ counts. none counts.rooms))

pub few_objects : (listing : Listing) → KeepsRules listing → length (placed listing) ≤ most_objects
few_objects listing keeps = stable_le (length (placed listing)) most_objects (λ none. keeps rules.Counts 0 (refl, λ counts. none counts.objects))

pub few_players : (listing : Listing) → KeepsRules listing → length listing.accounts ≤ most_players
few_players listing keeps = stable_le (length listing.accounts) most_players (λ none. keeps rules.Counts 0 (refl, λ counts. none counts.players))

-- ---- ids

id_low : (listing : Listing) (id : ℕ) → (HasNoBirth (world_listed listing) id → ⊥) → 1 ≤ id
id_low listing id born = elim (cases_eq id 0) [ inl e ↦ absurd (born (inr (ap (λ n. n % 2 ^ 32) e))) | inr apart ↦ omega arith ]

id_high : (listing : Listing) (id : ℕ) → length listing.rooms ≤ most_rooms → (HasNoBirth (world_listed listing) id → ⊥) → id ≤ 2 ^ 53
id_high listing id few born =
    elim (cases_lt (id / 2 ^ 32) most_rooms) [
      | inl lt ↦ omega arith
      | inr le ↦
          let frames : List Frame = map (λ (room : ListedRoom). room.frame) listing.rooms in
          let short : length frames ≡ length listing.rooms = length-map listing.rooms (λ (room : ListedRoom). room.frame) in
          let past : slice_get frames (id / 2 ^ 32) ≡ None = slice_get_past frames (id / 2 ^ 32) (omega arith) in
          absurd (born (inl (λ frame is. absurd (some_none _ frame (sym (frame_listed listing (id / 2 ^ 32)) ∙ is) past))))
    ]

-- ---- players

no_account : (accounts : List Account) → AllByRecursion IsWritableAccount accounts → (q : ℕ) → 2 ^ 32 ≤ q → find nat_cmp q (map (λ account. (account.player, account)) accounts) ≡ None
no_account [] fits q high = refl
no_account (account ∷ accounts) fits q high =
    let below : account.player < 2 ^ 32 = fits.0.below in
    let rest = find nat_cmp q (map (λ (account : Account). (account.player, account)) accounts) in
    ap (λ b. cond b (Some account) rest) (unsigned_tied q account.player ∙ ne_eqb q account.player (λ same. omega arith)) ∙ no_account accounts fits.1 q high

no_player : (listing : Listing) → AllByRecursion IsWritableAccount listing.accounts → (q : ℕ) → 2 ^ 32 ≤ q → IsPlayer (world_listed listing) q → ⊥
no_player listing fits q high is =
    let entries = map (λ (account : Account). (account.player, account)) listing.accounts in
    some_none _ is.0 is.1 (get-from_entries nat_cmp_total entries q ∙ no_account listing.accounts fits q high)

-- ---- objects

module _ (listing : Listing) (keeps : KeepsRules listing) (fits : AllByRecursion IsWritableAccount listing.accounts) where
  owner_low : (o : Object) → StandsThere (world_listed listing) o → o.owner ≤ 2 ^ 32 - 1
  owner_low o there =
      elim (cases_lt o.owner (2 ^ 32)) [
        | inl lt ↦ omega arith
        | inr le ↦ absurd (keeps rules.Owner o.id (record { room = there.0; object = o }, there.1, inl (λ none. omega arith, inl (no_player listing fits o.owner le))))
      ]

  other_low : (o : Object) → StandsThere (world_listed listing) o → o.other ≤ 2 ^ 32 - 1
  other_low o there =
      elim (cases_lt o.other (2 ^ 32)) [
        | inl lt ↦ omega arith
        | inr le ↦ absurd (keeps rules.Owner o.id (record { room = there.0; object = o }, there.1, inr (λ none. omega arith, inl (no_player listing fits o.other le))))
      ]

  object_in_file : (o : Object) → StandsThere (world_listed listing) o → IsInFile o
  object_in_file o there =
      let born : HasNoBirth (world_listed listing) o.id → ⊥ = λ (unborn : HasNoBirth (world_listed listing) o.id). keeps rules.Serial o.id (record { room = there.0; object = o }, there.1, unborn) in
      record {
        id_low = id_low listing o.id born;
        id = id_high listing o.id (few_rooms listing keeps) born;
        owner = owner_low o there;
        other = other_low o there;
        small = stable_small o (λ none. keeps rules.Range o.id (record { room = there.0; object = o }, there.1, λ range. none (small_as o.kind o refl range)));
      }

-- by the rules, the fields of each object are in a file's ranges
pub objects_in_file : (world : Stored) → IsWritable world → AllByRecursion (λ room. AllByRecursion IsInFile room.table.objects) world.rooms
objects_in_file world writable =
    let listing = listing_of world in
    all_weaker (λ room. AllByRecursion (StandsThere (world_listed listing)) room.table.objects) (λ room. AllByRecursion IsInFile room.table.objects)
    (λ room stand. all_weaker (StandsThere (world_listed listing)) IsInFile (object_in_file listing writable.rules writable.accounts) room.table.objects stand)
    world.rooms (objects_stand listing world.rooms refl writable.rules)
