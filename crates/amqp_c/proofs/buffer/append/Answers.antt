-- `append` writes an entry: its name, its head and its content are written one right after another.
use Rattle.std.proofs.Common.{sym, ◌∙◌}
use Rattle.amqp_c.proofs.Buffers.{named_table, named_other, appended}
use Rattle.amqp_c.proofs.buffer.append.Goals as goal
use Rattle.amqp_c.proofs.buffer.append.Goals.{then-into-eq70, else-into-eq70}

pub returns-clause-appended : goal.returns-clause-appended
returns-clause-appended c =
    let tag = c.args.into.tag in
    let k = c.args.key.now in
    appended c.args.buffer.now k c.args.head.now c.args.content.now c.write_name.new.buffer c.write.new.buffer c.write_bytes.new.buffer
    c.args.into c.up_to.result c.args.at c.if-into-eq70.name_length c.requires.place c.requires.at
    (elim c.if-into-eq70.branch [
      | then-into-eq70 w ↦ w.name_length-is ∙ sym (named_table tag k w.if-into-eq70.true)
      | else-into-eq70 w ↦ w.name_length-is ∙ sym (named_other tag k w.if-into-eq70.false)
    ])
    c.if-buffer-at.false c.write_name.ensures c.write.ensures c.write_bytes.ensures c.up_to.ensures
