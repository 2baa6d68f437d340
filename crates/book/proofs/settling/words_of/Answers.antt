-- A signed word reads back as it was; a number without a sign is its own word.
use mathlib.Core.Bool.{Bool, true, false, cond}
use mathlib.Core.Path.{◌≡◌, refl}
use Rattle.std.proofs.Common.{rules}
use Rattle.std.proofs.Math.Facts.{to_z-of_z}
use mir.Syntax.{w64}
use mir.Val.{bool_byte}
use Rattle.numbers.specs.Lists.{gather}
use Rattle.book.proofs.settling.words_of.Goals as goal

one_or_zero : (bid : Bool) → bool_byte bid ≡ cond bid 1 0
one_or_zero true = refl
one_or_zero false = refl

pub returns : goal.returns
unfolding gather
returns c =
    let figures = c.args.figures in
    simp (
      c.word_bytes.ensures,
      c.word_bytes-2.ensures,
      c.eight_bytes.ensures,
      c.eight_bytes-2.ensures,
      c.eight_bytes-3.ensures,
      c.eight_bytes-4.ensures,
      c.eight_bytes-5.ensures,
      c.eight_bytes-6.ensures,
      c.from.ensures,
      c.from-2.ensures,
      one_or_zero figures.bid,
      to_z-of_z {w = w64} {z = figures.total} (search rules),
      to_z-of_z {w = w64} {z = figures.settled} (search rules),
    )
