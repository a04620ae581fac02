use Rattle.std.proofs.Common.{◌≡◌, ◌+◌, [], length, map, take, true}
use Rattle.std.specs.Io.Buffered.{writer_buffer, writer_contents}
use Rattle.regroup_lines.specs.Sending.{by_writer}
use Rattle.regroup_stream.specs.Inputs.{RunsEach}
use Rattle.regroup_stream.proofs.inputs.run_each.Given as goal

-- the inputs so far were run over, and the buffer is as long as it was
abbrev pub invariant-loop-name : goal.invariant-loop-name
invariant-loop-name g l =
    RunsEach (g.I.Open.opens l.inputs) l.rules (map (λ name. name.now) l.field_names) l.formats.from l.formats.to
    (map (λ name. name.now) (take l.name-index l.names)) l.status true l.is_whole
    (by_writer (writer_contents g.O.Write.contents l.initial.out) (g.E.Write.contents l.initial.err)
    (writer_contents g.X.Write.contents l.initial.rejects))
    (by_writer (writer_contents g.O.Write.contents l.out) (g.E.Write.contents l.err) (writer_contents g.X.Write.contents l.rejects))
    (by_writer (writer_buffer l.initial.out) [] (writer_buffer l.initial.rejects))
    (by_writer (writer_buffer l.out) [] (writer_buffer l.rejects)) × (length l.buffer ≡ l.rules.max_line_len + 1)
