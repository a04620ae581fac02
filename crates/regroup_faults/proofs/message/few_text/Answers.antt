use Rattle.std.proofs.Common.{append_assoc}
use Rattle.regroup_faults.proofs.message.few_text.Goals as goal

pub returns : goal.returns
returns c = simp (
  c.push_str-6.ensures.bytes,
  c.as_str.ensures.value,
  c.quoted.ensures,
  c.push_str-5.ensures.bytes,
  c.push_str-4.ensures.bytes,
  c.format-2.ensures.text,
  c.push_str-3.ensures.bytes,
  c.push_str-2.ensures.bytes,
  c.format.ensures.text,
  c.push_str.ensures.bytes,
  c.new-text.ensures,
  append_assoc,
)
