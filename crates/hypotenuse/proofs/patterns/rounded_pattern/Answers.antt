-- `hypotenuse::patterns::rounded_pattern` meets its contract, by the search; written so that a wrong body is refused sooner. Assumes nothing.
use Rattle.std.proofs.Common.{rules}
use Rattle.hypotenuse.proofs.patterns.rounded_pattern.Goals as goal

pub returns-else-t-lt-LONG_ROOT : goal.returns-else-t-lt-LONG_ROOT
returns-else-t-lt-LONG_ROOT c = search rules

pub returns-then-t-lt-LONG_ROOT : goal.returns-then-t-lt-LONG_ROOT
returns-then-t-lt-LONG_ROOT c = search rules
