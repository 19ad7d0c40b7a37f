use Rattle.std.proofs.Common.{rules, ◌-◌, length, get_or, ap, sym, ◌∙◌, arith}
use Rattle.std.specs.Ordering.{is_lt}
use Rattle.std.proofs.lemmas.List.{length-map}
use Rattle.std.proofs.lemmas.List.Sorted.{IsPartitionPoint-from_clause}
use Rattle.unlink_race.proofs.Reading.{is_below, below_tests, key_in, parted, split, all_pass, none_pass, no_pairs, last_there}
use Rattle.unlink_race.proofs.by_number.place_before.Goals as goal
use Rattle.unlink_race.proofs.by_number.place_before.Goals.{then-is_empty-via-then-is_empty, then-is_empty-via-else-is_empty+then-not-is_lt}

pub returns-clause-parted : goal.returns-clause-parted
returns-clause-parted c =
    λ pairs same reads up.
    let lanes = c.args.arena.now.lanes in
    let parted_keys = parted c.args.by lanes pairs reads (is_below c.args.by lanes c.args.number) c.args.number (below_tests c.args.by lanes c.args.number) up in
    let point = IsPartitionPoint-from_clause (is_below c.args.by lanes c.args.number) c.args.keys.now c.partition_point.result c.partition_point.ensures.partitioned (rw same parted_keys) (λ a r q called. search rules) in
    let long = ap length same ∙ length-map pairs key_in in
    split c.args.by lanes pairs reads (is_below c.args.by lanes c.args.number) c.args.number (below_tests c.args.by lanes c.args.number) c.partition_point.result (omega (arith, c.partition_point.ensures.bound, long)) (rw (← same) point)

pub returns-then-is_empty-clause-parted : goal.returns-then-is_empty-clause-parted
returns-then-is_empty-clause-parted c =
    λ pairs same reads up.
    let lanes = c.args.arena.now.lanes in
    elim c.then-is_empty.branch [
      | then-is_empty-via-then-is_empty w ↦ (
          let none = no_pairs pairs c.args.keys.now same (sym c.is_empty.ensures ∙ w.if-is_empty.true) in
          (λ k d below. absurd (omega (arith, below)), λ k d above inside. absurd (omega (arith, inside, none))))
      | then-is_empty-via-else-is_empty+then-not-is_lt w ↦ (
          let key = w.index-keys-0.result in
          none_pass c.args.by lanes pairs reads (is_below c.args.by lanes c.args.number) c.args.number (below_tests c.args.by lanes c.args.number) up key (w.index-keys-0.is ∙ ap (λ ks. get_or ks 0 key) same) (ap is_lt (sym w.compared.ensures) ∙ sym w.is_lt.ensures ∙ w.if-not-is_lt.true))
    ]

pub returns-then-is_lt-clause-parted : goal.returns-then-is_lt-clause-parted
returns-then-is_lt-clause-parted c =
    λ pairs same reads up.
    let lanes = c.args.arena.now.lanes in
    let key = c.index-keys-keys.result in
    let last = length c.args.keys.now - 1 in
    all_pass c.args.by lanes pairs reads (is_below c.args.by lanes c.args.number) c.args.number (below_tests c.args.by lanes c.args.number) up (length c.args.keys.now) last key (ap length same ∙ length-map pairs key_in) (last_there c.args.keys.now (sym c.is_empty.ensures ∙ c.if-is_empty.false)) (c.index-keys-keys.is ∙ ap (λ ks. get_or ks last key) same) (ap is_lt (sym c.compared-2.ensures) ∙ sym c.is_lt-2.ensures ∙ c.if-is_lt.true)
