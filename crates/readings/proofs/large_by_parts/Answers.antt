use Rattle.std.proofs.Common.{rules, arith, ◌≡◌, sym, ap, ◌∙◌, ◌+◌, ◌*◌, ◌≤◌, length, take, drop}
use Rattle.std.specs.Prelude.{Some, None}
use Rattle.readings.specs.Readings.{reading_length, large_place}
use Rattle.readings.proofs.Parts.{behind, behind_none, behind_both, found_in_part, none_in_part}
use Rattle.readings.proofs.large_by_parts.Goals as goal

pub loop-part-init : goal.loop-part-init
loop-part-init c = (behind_none (large_place c.args.readings.now), omega arith)

pub returns-in-Some-large_among : goal.returns-in-Some-large_among
returns-in-Some-large_among c =
    let left = c.loop-part.left.now in
    let place = c.in-Some-large_among.place in
    let room : 48 * reading_length ≤ length left = search rules in
    let part : c.in-Some.part.now ≡ take 192 left = search rules in
    let found : large_place (take 192 left) ≡ Some place = ap large_place (sym part) ∙ sym c.large_among.ensures ∙ c.in-Some-large_among.is in
    sym (c.loop-part.invariant.0 ∙ ap (behind c.loop-part.passed) (found_in_part 48 left room place found))

pub loop-part-preserved : goal.loop-part-preserved
loop-part-preserved c =
    let left = c.loop-part.left.now in
    let room : 48 * reading_length ≤ length left = search rules in
    let part : c.in-Some.part.now ≡ take 192 left = search rules in
    let rest : c.in-Some.behind.now ≡ drop 192 left = search rules in
    let none : large_place (take 192 left) ≡ None = ap large_place (sym part) ∙ search rules in (
      c.loop-part.invariant.0 ∙ ap (behind c.loop-part.passed) (none_in_part 48 left room none)
          ∙ behind_both c.loop-part.passed 48 (large_place (drop 192 left)) ∙ ap (λ l. behind (c.loop-part.passed + 48) (large_place l)) (sym rest),
      search (rules, arith),
    )

pub map-requires : goal.map-requires
map-requires c = search rules

pub returns : goal.returns
returns c = search rules
