-- `number::width` meets its contract: each branch knows how many times n can be divided by 128.
use Rattle.std.proofs.Common.{arith}
use Rattle.number.specs.Groups.{size_one, size_two, size_three, size_four, size_five}
use Rattle.number.proofs.width.Goals as goal

pub returns-then-n-lt128 : goal.returns-then-n-lt128
returns-then-n-lt128 c = size_one _ (omega arith)

pub returns-then-n-lt16384 : goal.returns-then-n-lt16384
returns-then-n-lt16384 c = size_two _ (omega arith) (omega arith)

pub returns-then-n-lt2097152 : goal.returns-then-n-lt2097152
returns-then-n-lt2097152 c = size_three _ (omega arith) (omega arith)

pub returns-then-n-lt268435456 : goal.returns-then-n-lt268435456
returns-then-n-lt268435456 c = size_four _ (omega arith) (omega arith)

pub returns-else-n-lt268435456 : goal.returns-else-n-lt268435456
returns-else-n-lt268435456 c = size_five _ (omega arith)
