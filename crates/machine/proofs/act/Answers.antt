-- `act` meets its contract, action by action.
use Rattle.machine.specs.ActLaws.{of_set, of_add, of_subtract, of_read, of_write, of_input, of_output, of_skip, acted_set, acted_add, acted_subtract, acted_read, acted_write, acted_input, acted_output, acted_skip, acted_stay, acted_unknown}
use Rattle.machine.proofs.act.Goals as goal

-- ---- what the steps require
pub set-requires : goal.set-requires
set-requires c = let able = c.requires in
    (able.process, of_set able.operands c.in-Set.is)

pub add-requires : goal.add-requires
add-requires c = let able = c.requires in
    let (a, b, d) = of_add able.operands c.in-Add.is in
    (able.process, a, b, d)

pub subtract-requires : goal.subtract-requires
subtract-requires c = let able = c.requires in
    let (a, b, d) = of_subtract able.operands c.in-Subtract.is in
    (able.process, a, b, d)

pub read-requires : goal.read-requires
read-requires c = let able = c.requires in
    let (ch, b, d) = of_read able.operands c.in-Read.is in
    (ch, b, d, able.process, able.sound)

pub write-requires : goal.write-requires
write-requires c = let able = c.requires in
    let (ch, b) = of_write able.operands c.in-Write.is in
    (ch, b, able.process, able.capacities, able.sound, able.room)

pub input-requires : goal.input-requires
input-requires c = let able = c.requires in
    let (a, b) = of_input able.operands c.in-Input.is in
    (a, b, able.process)

pub get-value-requires : goal.get-value-requires
get-value-requires c = let able = c.requires in
    (able.process, of_output able.operands c.in-Output.is)

-- ---- what the action does
pub returns-in-Output : goal.returns-in-Output
returns-in-Output c = let able = c.requires in
    acted_output _ _ _ _ _ _ able.sound c.in-Output.is c.get-value.ensures

pub get-requires : goal.get-requires
get-requires c = let able = c.requires in
    (able.process, (of_skip able.operands c.in-Skip.is).0)

pub returns-then-get-eq0 : goal.returns-then-get-eq0
returns-then-get-eq0 c = let able = c.requires in
    acted_skip _ _ _ _ _ _ able.sound c.in-Skip.is c.get.ensures c.if-get-eq0.true

pub returns-in-Set : goal.returns-in-Set
returns-in-Set c = let able = c.requires in
    acted_set _ _ _ _ _ _ able.sound c.in-Set.is c.set.ensures

pub returns-in-Add : goal.returns-in-Add
returns-in-Add c = let able = c.requires in
    acted_add _ _ _ _ _ _ able.sound c.in-Add.is c.add.ensures

pub returns-in-Subtract : goal.returns-in-Subtract
returns-in-Subtract c = let able = c.requires in
    acted_subtract _ _ _ _ _ _ able.sound c.in-Subtract.is c.subtract.ensures

pub returns-in-Read : goal.returns-in-Read
returns-in-Read c = acted_read _ _ _ _ _ _ c.in-Read.is c.read.ensures

pub returns-in-Write : goal.returns-in-Write
returns-in-Write c = acted_write _ _ _ _ _ _ c.in-Write.is c.write.ensures

pub returns-in-Input : goal.returns-in-Input
returns-in-Input c = let able = c.requires in
    acted_input _ _ _ _ _ _ able.sound c.in-Input.is c.input.ensures

pub returns-else-get-eq0 : goal.returns-else-get-eq0
returns-else-get-eq0 c = let able = c.requires in
    acted_stay _ _ _ _ _ _ able.sound c.in-Skip.is c.get.ensures c.if-get-eq0.false

pub returns-in-Unknown : goal.returns-in-Unknown
returns-in-Unknown c = acted_unknown _ _ _ _ _ _ c.requires.sound c.in-Unknown.is
