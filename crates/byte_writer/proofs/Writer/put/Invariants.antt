-- `byte_writer::Writer::put` meets its contract: the bytes from byte-index on are still to be written. Assumes nothing.
use Rattle.std.specs.Prelude.{◌≤◌, length, drop}
use Rattle.byte_writer.specs.Chains.{Writing}
use Rattle.byte_writer.proofs.Writer.put.Given as goal

abbrev pub invariant-loop-byte : goal.invariant-loop-byte
invariant-loop-byte l = (l.byte-index ≤ length l.bytes) × Writing l.initial.self l.bytes (drop l.byte-index l.bytes) l.self
