-- `form_of` reads the table, whose forms are those that RFC 9669's fields give: antt computes and compares them.
use borrow.Author.Rules.{rules}
use Rattle.insn.specs.Rfc.{size_field}
use Rattle.insn.specs.Form.{form_of, sizes, with_constant, with_register, jumps}
use Rattle.insn.proofs.Forms.{forms, form_at}
use Rattle.insn.proofs.form.form_of.Goals as goal

pub returns : goal.returns
unfolding forms form_of size_field sizes with_constant with_register jumps
returns c = form_at c.args.code (search rules)
