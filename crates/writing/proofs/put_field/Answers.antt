use Rattle.std.proofs.Common.{◌∙◌, arith}
use Rattle.writing.proofs.Storing.{stored}
use Rattle.writing.proofs.put_field.Goals as goal

pub returns : goal.returns
returns c =
    let a = c.args in
    rw (c.copy_from_slice-2.ensures.after, c.copy_from_slice.ensures.after ∙ c.length_bytes.ensures) (stored a.out.now a.value.now a.tag (omega arith))
