-- `frame::frame_length` meets its contract. The loop's invariant: the frame of the processes so far.
use Rattle.std.proofs.Common.{◌≡◌, take}
use Rattle.network.specs.Frame.{frame_length}
use Rattle.network.proofs.frame.frame_length.Given as goal

abbrev pub invariant-loop-process : goal.invariant-loop-process
invariant-loop-process l = l.frame ≡ frame_length (take l.process-index l.processes)
