-- What a sink in memory was given, and its gives.
use Rattle.std.specs.Prelude.{ℕ, List, Option, Some}
use Rattle.rad_outside.specs.declared.failing_calls.FailingCalls.{FailingCalls}
use Rattle.rad_outside.specs.declared.memory_sink.MemSink.{MemSink}

-- what it was given
abbrev pub given_of : MemSink → Option (List ℕ)
given_of sink = Some sink.bytes.items

-- which gives are to fail, and how many it has had
abbrev pub fails_of : MemSink → FailingCalls
fails_of sink = sink.fails
