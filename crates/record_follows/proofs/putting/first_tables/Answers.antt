use Rattle.std.proofs.Common.{◌≡◌, ◌==◌, ◌∙◌, ◌-◌, ◌<◌, suc, length, sym, ap, arith, rules, vec_len, length-set}
use Rattle.std.proofs.Math.Seq.{drop-length}
use Rattle.std.specs.List.{find}
use Rattle.record_follows.specs.inner.Parts.{noted}
use Rattle.record_follows.proofs.Placing.{index_fits, none_noted, note_step}
use Rattle.record_follows.proofs.putting.first_tables.Goals as goal

pub index_mut-requires : goal.index_mut-requires
index_mut-requires c =
    let fits : c.index-tables-at.result.index < c.args.rooms = index_fits c.args.tables.now c.args.rooms (c.loop-at.at - 1) c.index-tables-at.result (omega arith) c.index-tables-at.is c.requires in
    let index : c.index-index.result ≡ c.index-tables-at.result.index = c.index-index.ensures in
    let count : length c.loop-at.firsts.items ≡ c.args.rooms = c.loop-at.invariant.count in
    omega arith

pub loop-at-init : goal.loop-at-init
loop-at-init c =
    let none = c.in_ok-firsts.ensures.items_if_clones_equal (λ y cloned. search rules) in
    record {
      count = let len : vec_len c.in_ok-firsts.firsts ≡ c.args.rooms = c.in_ok-firsts.ensures.len in omega arith;
      first = λ index. ap (λ firsts. noted firsts index) none ∙ none_noted c.args.rooms index ∙ sym (ap (find (λ table. table.index == index)) (drop-length c.args.tables.now));
    }

pub loop-at-preserved : goal.loop-at-preserved
loop-at-preserved c =
    let next : c.loop-at.at ≡ suc (c.loop-at.at - 1) = omega arith in
    let fits : c.index-tables-at.result.index < c.args.rooms = index_fits c.args.tables.now c.args.rooms (c.loop-at.at - 1) c.index-tables-at.result (omega arith) c.index-tables-at.is c.requires in
    let index : c.index-index.result ≡ c.index-tables-at.result.index = c.index-index.ensures in
    let count : length c.loop-at.firsts.items ≡ c.args.rooms = c.loop-at.invariant.count in
    record {
      count = length-set c.loop-at.firsts.items c.index-index.result _ ∙ c.loop-at.invariant.count;
      first = note_step c.loop-at.firsts.items _ c.args.tables.now c.loop-at.at (c.loop-at.at - 1) c.index-index.result next (omega arith) c.index-tables-at.is index (omega arith) c.loop-at.invariant.first;
    }
