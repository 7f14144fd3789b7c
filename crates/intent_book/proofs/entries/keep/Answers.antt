use Rattle.std.proofs.Common.{◌≡◌, ◌∙◌, ap, sym, subst, arith, Some}
use Rattle.std.specs.List.{position}
use Rattle.std.specs.Map.{keys_of}
use Rattle.indexmap.specs.IndexMap.{index_map_len, spare}
use Rattle.indexmap.proofs.CallerLemmas.{index_map_len-with_value_at}
use Rattle.indexmap.proofs.MapLemmas.{Found-position, insert_entry-first}
use Rattle.intent_book.specs.Records.{place_eq, place}
use Rattle.intent_book.proofs.entries.keep.Goals as goal

pub returns-in-Some-clause-entries : goal.returns-in-Some-clause-entries
returns-in-Some-clause-entries c =
    let es = c.args.entries.now.entries in
    let found = subst (λ k. position (place_eq k) (keys_of es) ≡ Some c.in-Some.at) c.place-place.ensures (sym c.in-Some.ensures.index) in
    ap (λ m. m.entries) c.write_at.ensures
    ∙ sym (insert_entry-first place_eq (place c.args.kept.intent) c.args.kept es c.in-Some.at (Found-position (place_eq (place c.args.kept.intent)) es c.in-Some.at found).first)

pub returns-in-Some-clause-room : goal.returns-in-Some-clause-room
returns-in-Some-clause-room c =
    omega (arith, ap spare c.write_at.ensures, ap index_map_len c.write_at.ensures, index_map_len-with_value_at c.args.entries.now c.in-Some.at c.args.kept, c.requires.room)

pub returns-in-Some-clause-most : goal.returns-in-Some-clause-most
returns-in-Some-clause-most c =
    omega (arith, ap index_map_len c.write_at.ensures, index_map_len-with_value_at c.args.entries.now c.in-Some.at c.args.kept, c.requires.most)
