-- What a run does to its files, to its sinks and to its stopper.
use Rattle.std.specs.Prelude.{◌≡◌, ◌⊎◌, ℕ, List, Bool, Option, Some, IfSome, IsTrue}
use Rattle.locus_io.specs.Causes.{Rose, RoseBy}
use Rattle.locus_io.specs.Content.{NamedFiles, file_of, Appends, AppendsFront}

-- an object of the outside, before a run and after it
pub record Change (S : Type 0) : Type 0 where
  pub before : S
  pub after : S

-- it is after the run as it was before
abbrev pub Unchanged : {S : Type 0} → Change S → Type 0
Unchanged c = c.after ≡ c.before

-- files: what they hold, if they tell it, how many loads have failed, and the name whose load failed last
pub record FilesState : Type 0 where
  pub content : Option NamedFiles
  pub faults : ℕ
  pub last_fault : Option (List ℕ)

-- a sink: what was written to it, if it tells it, whether nothing of this is held back, and how many calls have failed
pub record SinkState : Type 0 where
  pub written : Option (List ℕ)
  pub is_flushed : Bool
  pub faults : ℕ

-- a stopper: how many stops it counted, and the name of the last
pub record StopperState : Type 0 where
  pub stops : ℕ
  pub last_stop : Option (List ℕ)

-- files before and after a run, by what their type tells of them
abbrev pub files_change : {F : Type 0} → (F → Option NamedFiles) → (F → ℕ) → (F → Option (List ℕ)) → F → F → Change FilesState
files_change content faults last_fault old new = record {
  before = record { content = content old; faults = faults old; last_fault = last_fault old };
  after = record { content = content new; faults = faults new; last_fault = last_fault new };
}

-- a sink before and after a run, by what its type tells of it
abbrev pub sink_change : {S : Type 0} → (S → Option (List ℕ)) → (S → Bool) → (S → ℕ) → S → S → Change SinkState
sink_change written is_flushed faults old new = record {
  before = record { written = written old; is_flushed = is_flushed old; faults = faults old };
  after = record { written = written new; is_flushed = is_flushed new; faults = faults new };
}

-- a stopper before and after a run, by what its type tells of it
abbrev pub stopper_change : {S : Type 0} → (S → ℕ) → (S → Option (List ℕ)) → S → S → Change StopperState
stopper_change stops last_stop old new = record {
  before = record { stops = stops old; last_stop = last_stop old };
  after = record { stops = stops new; last_stop = last_stop new };
}

-- the stopper counted a stop, and the last was under this name
abbrev pub HasStopped : Change StopperState → List ℕ → Type 0
HasStopped stopper name = RoseBy stopper.before.stops stopper.after.stops name stopper.after.last_stop

-- a file of this name is there and has these bytes, if the files tell what they hold
abbrev pub Holds : Change FilesState → List ℕ → List ℕ → Type 0
Holds files name bytes = IfSome files.before.content (λ told. file_of name told ≡ Some bytes)

-- the files counted a fault, and it was at this name; what they hold is as before
pub record HasFaultAt (files : Change FilesState) (name : List ℕ) : Type 0 where
  pub fault : RoseBy files.before.faults files.after.faults name files.after.last_fault
  pub content : files.after.content ≡ files.before.content

-- the whole text was written, nothing of it is held back, and no fault was counted
pub record TakesText (sink : Change SinkState) (text : List ℕ) : Type 0 where
  pub appended : Appends sink.before.written sink.after.written text
  pub flushed : IsTrue sink.after.is_flushed
  pub faults : sink.after.faults ≡ sink.before.faults

-- a fault was counted, and a prefix of the text was written
pub record BreaksOff (sink : Change SinkState) (text : List ℕ) : Type 0 where
  pub fault : Rose sink.before.faults sink.after.faults
  pub prefix : AppendsFront sink.before.written sink.after.written text

-- the line was written, as far as the sink took it
abbrev pub Sends : Change SinkState → List ℕ → Type 0
Sends sink line = TakesText sink line ⊎ BreaksOff sink line
