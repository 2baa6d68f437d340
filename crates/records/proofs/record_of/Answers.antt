use Rattle.std.proofs.Common.{w64}
use Rattle.integers.proofs.Machine.{told}
use Rattle.records.proofs.record_of.Goals as goal

pub returns : goal.returns
returns c =
    simp (
      told w64 c.signed_word_at.type_inv c.signed_word_at.ensures,
      told w64 c.signed_word_at-2.type_inv c.signed_word_at-2.ensures,
      told w64 c.signed_word_at-3.type_inv c.signed_word_at-3.ensures,
      told w64 c.signed_word_at-4.type_inv c.signed_word_at-4.ensures,
      told w64 c.signed_word_at-5.type_inv c.signed_word_at-5.ensures,
      told w64 c.signed_word_at-6.type_inv c.signed_word_at-6.ensures,
      told w64 c.signed_word_at-7.type_inv c.signed_word_at-7.ensures,
      told w64 c.signed_word_at-8.type_inv c.signed_word_at-8.ensures,
    )
