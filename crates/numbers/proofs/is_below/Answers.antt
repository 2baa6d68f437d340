use mathlib.Core.Path.{◌≡◌, ap, ◌∙◌}
use mathlib.Core.Bool.{Bool, false}
use Prim.Native.Nat.{ℕ}
use lib.Dec.{ltb}
use Rattle.std.proofs.Common.{rules, tests, Option, None, Some}
use Rattle.std.proofs.lemmas.Iterator.{YieldsList-from_slice, YieldsList-from_zip}
use Rattle.std.proofs.lemmas.Iterator.Search.{find_from_yields_List}
use Rattle.std.specs.Option.{MatchOption, option_map}
use Rattle.numbers.proofs.PointNumbers.{differ, is_first_below, below_found}
use Rattle.numbers.proofs.is_below.Goals as goal

decided : {A : Type 0} (v : A → ℕ × ℕ) (o : Option A) (r : Bool) → MatchOption o (r ≡ false) (λ x. r ≡ ltb (v x).0 (v x).1)
    → r ≡ is_first_below (option_map v o)
decided v None r h = h
decided v (Some x) r h = h

pub returns : goal.returns
returns c =
    let e = find_from_yields_List differ c.find.new.self _ c.find.result c.find.ensures.ran
    (YieldsList-from_zip {s = c.zip.result} (YieldsList-from_slice c.args.a.now cc) (YieldsList-from_slice c.args.b.now cc)) (λ x b q k. search (rules, tests)) in
    decided _ c.find.result _ (search rules) ∙ ap is_first_below e ∙ below_found c.args.a.now c.args.b.now
