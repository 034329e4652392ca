use Rattle.std.proofs.Common.{sym, string_bytes}
use Rattle.keyfile.proofs.Escaping.{unescape-value}
use Rattle.keyfile.proofs.reading.take_entry.Goals as goal

pub put_at-requires-clause-value : goal.put_at-requires-clause-value
put_at-requires-clause-value c = unescape-value c.args.written.now (string_bytes c.in-Ok-Some.value) c.requires.value (sym (rw c.in-Ok-Some.field-0-is at c.in-Ok-Some.ensures))
