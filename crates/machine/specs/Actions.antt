-- The table of actions: which action four numbers say, what it does to variables and channels, what it outputs, and how many actions it skips.
use Rattle.std.specs.Prelude.{ℕ, ◌+◌, ◌-◌, ◌%◌, ◌^◌, cond, ◌==◌, slice_index_or}
use Rattle.network.specs.Net.{Net, no_channel}
use Rattle.network.specs.declared.Four.{Four}
use Rattle.network.specs.declared.Channel.{Channel}
use Rattle.machine.specs.State.{State, var, set_var, contents_of, set_contents, oldest, flag, after_read, after_write}
use Rattle.machine.specs.declared.Sample.{Sample}
use Rattle.machine.specs.declared.Action.{Action}
use Rattle.machine.specs.declared.Action.TheVariants.{Set, Add, Subtract, Read, Write, Input, Output, Skip, Unknown}

unfoldable pub decode : Four → Action
decode f =
    cond (f.head == 0) (Set f.a f.b)
    (cond (f.head == 1) (Add f.a f.b f.c)
    (cond (f.head == 2) (Subtract f.a f.b f.c)
    (cond (f.head == 3) (Read f.a f.b f.c)
    (cond (f.head == 4) (Write f.a f.b)
    (cond (f.head == 5) (Input f.a f.b)
    (cond (f.head == 6) (Output f.a)
    (cond (f.head == 7) (Skip f.a f.b)
    Unknown)))))))

abbrev pub channel_of : Net → ℕ → Channel
channel_of net c = slice_index_or net.channels c no_channel

-- what one action of process p does to variables and channels, the job's input sample being x
unfoldable pub effect : Net → ℕ → Sample → Action → State → State
effect net p x (Set a n) s = set_var p a n s
effect net p x (Add a b c) s = set_var p a ((var p b s + var p c s) % 2 ^ 32) s
effect net p x (Subtract a b c) s = set_var p a ((var p b s + (2 ^ 32 - var p c s)) % 2 ^ 32) s
effect net p x (Read ch b c) s =
    set_var p c (flag (contents_of ch s).held)
    (set_var p b (oldest (contents_of ch s).held)
    (set_contents ch (after_read (channel_of net ch).kind (contents_of ch s)) s))
effect net p x (Write ch b) s =
    set_contents ch (after_write (channel_of net ch).kind (channel_of net ch).capacity (var p b s) (contents_of ch s)) s
effect net p x (Input a b) s = set_var p b x.present (set_var p a x.value s)
effect net p x (Output a) s = s
effect net p x (Skip a n) s = s
effect net p x Unknown s = s

-- "output sample becomes a"
unfoldable pub output_after : ℕ → Action → State → Sample → Sample
output_after p (Set a n) s o = o
output_after p (Add a b c) s o = o
output_after p (Subtract a b c) s o = o
output_after p (Read ch b c) s o = o
output_after p (Write ch b) s o = o
output_after p (Input a b) s o = o
output_after p (Output a) s o = record { present = 1; value = var p a s }
output_after p (Skip a n) s o = o
output_after p Unknown s o = o

-- "if a is zero skip the next n actions"
unfoldable pub skipped : ℕ → Action → State → ℕ
skipped p (Set a n) s = 0
skipped p (Add a b c) s = 0
skipped p (Subtract a b c) s = 0
skipped p (Read ch b c) s = 0
skipped p (Write ch b) s = 0
skipped p (Input a b) s = 0
skipped p (Output a) s = 0
skipped p (Skip a n) s = cond (var p a s == 0) n 0
skipped p Unknown s = 0
