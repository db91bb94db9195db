-- The steps of a run lead to its ends.
use Rattle.std.proofs.Common.{◌≡◌, ℕ, List, [], Result, Ok, Err, IfOk, IsErr, codes, refl, sym, subst, inl}
use Rattle.command_line.specs.Requests.{Request}
use Rattle.lists.specs.declared.memory.NoMemory.{NoMemory}
use Rattle.problem_toml.specs.declared.error.ProblemError.{ProblemError}
use Rattle.tree_text.specs.declared.error.TreeTextError.{TreeTextError}
use Rattle.checkpoint.specs.declared.error.CheckpointError.{CheckpointError}
use Rattle.locus_core.specs.Texts.{refused_line, refused_checkpoint_line, refused_tree_line, refused_range_line}
use Rattle.locus_core.specs.declared.work.Refusal.TheVariants as refusal
use Rattle.locus_core.specs.Words.{AsksFor}
use Rattle.locus_core.specs.Outside.{Unchanged, Sends, Change, SinkState}
use Rattle.locus_core.specs.Comes.{Comes}
use Rattle.locus_core.specs.Ends as ends
use Rattle.locus_core.specs.Ends.{Run, Ends, IsIdle}
use Rattle.locus_core.specs.Steps as steps
use Rattle.locus_core.specs.Steps.{WhyNot, Prints, whole, broken, Refuses, RefusesWords, nothing_asked, unread}
use Rattle.locus_core.specs.declared.work.Refusal.{Refusal}

printed_with : (run : Run) (request : Request) (status : ℕ) (text : List ℕ) (answer : ℕ) → AsksFor run.words request
    → Comes run.files run.stopper run.shares request status text → Unchanged run.files
    → Prints run.out run.err status text answer → Ends run answer
printed_with run request status text answer asks comes files (whole is out err) =
    subst (Ends run) (sym is)
    (ends.printed (record { request = request; text = text; words = asks; comes = comes; files = files; out = out; err = err }))
printed_with run request status text answer asks comes files (broken is out err) =
    ends.write_fault is (record {
      request = request;
      status = status;
      text = text;
      words = asks;
      comes = comes;
      files = files;
      out = out;
      err = err;
    })

pub printed_ends : (run : Run) (request : Request) (status : ℕ) (text shares : List ℕ) (answer : ℕ) → AsksFor run.words request → run.shares ≡ shares
    → Unchanged run.files × Comes run.files run.stopper shares request status text → Prints run.out run.err status text answer → Ends run answer
printed_ends run request status text shares answer asks same (files, comes) prints =
    printed_with run request status text answer asks (subst (λ s. Comes run.files run.stopper s request status text) (sym same) comes) files prints

pub refused_ends : (run : Run) (request : Request) (refusal : Refusal) (answer : ℕ) → AsksFor run.words request
    → WhyNot request run.files run.stopper refusal → Unchanged run.out → run.shares ≡ [] → Refuses run.err answer refusal → Ends run answer
refused_ends run request _ answer asks (steps.read_fault name named fault still) out none (steps.read_fault is err) =
    ends.read_fault is (record {
      request = request;
      name = name;
      words = asks;
      asked = named;
      files = fault;
      idle = record { out = out; stopper = still; shares = none };
      err = err;
    })
refused_ends run request _ answer asks (steps.problem name bytes reason asked file refused kept still) out none (steps.problem error is err) =
    ends.problem_refused is (record {
      request = request;
      name = name;
      bytes = bytes;
      error = reason;
      words = asks;
      asked = asked;
      file = file;
      refused = refused;
      files = kept;
      idle = record { out = out; stopper = still; shares = none };
      err = err;
    })
refused_ends run request _ answer asks (steps.problem name bytes reason asked file refused kept still) out none (steps.unheard_problem error is err) =
    ends.want_of_memory is (record { request = request; words = asks; files = kept; stopper = inl still; out = out; shares = none; err = err })
refused_ends run request _ answer asks (steps.checkpoint s bytes reason same file refused kept still) out none (steps.checkpoint error is err) =
    ends.checkpoint_refused is (record {
      sum = s;
      bytes = bytes;
      error = reason;
      words = subst (AsksFor run.words) same asks;
      file = file;
      refused = refused;
      files = kept;
      idle = record { out = out; stopper = still; shares = none };
      err = err;
    })
refused_ends run request _ answer asks (steps.checkpoint s bytes reason same file refused kept still) out none (steps.unheard_checkpoint error is err) =
    ends.want_of_memory is (record { request = request; words = asks; files = kept; stopper = inl still; out = out; shares = none; err = err })
refused_ends run request _ answer asks (steps.tree name text p reason same file refused kept still) out none (steps.tree error is err) =
    ends.tree_refused is (record {
      name = name;
      text = text;
      problem = p;
      error = reason;
      words = subst (AsksFor run.words) same asks;
      file = file;
      refused = refused;
      files = kept;
      idle = record { out = out; stopper = still; shares = none };
      err = err;
    })
refused_ends run request _ answer asks (steps.tree name text p reason same file refused kept still) out none (steps.unheard_tree error is err) =
    ends.want_of_memory is (record { request = request; words = asks; files = kept; stopper = inl still; out = out; shares = none; err = err })
refused_ends run request _ answer asks (steps.range name p asked file outside kept still) out none (steps.range count is err) =
    ends.range_refused is (record {
      request = request;
      name = name;
      problem = p;
      words = asks;
      asked = asked;
      file = file;
      out_of_range = outside;
      files = kept;
      idle = record { out = out; stopper = still; shares = none };
      err = err;
    })
refused_ends run request _ answer asks (steps.range name p asked file outside kept still) out none (steps.unheard_range count is err) =
    ends.want_of_memory is (record { request = request; words = asks; files = kept; stopper = inl still; out = out; shares = none; err = err })
refused_ends run request _ answer asks (steps.no_memory kept stopped) out none (steps.no_memory is err) =
    ends.want_of_memory is (record { request = request; words = asks; files = kept; stopper = stopped; out = out; shares = none; err = err })

pub words_end : (run : Run) (answer : ℕ) → Unchanged run.files → Unchanged run.stopper → Unchanged run.out → run.shares ≡ []
    → RefusesWords run.words run.err answer → Ends run answer
words_end run answer files still out none (nothing_asked text is asks look told) =
    ends.words_refused is (record {
      words = asks;
      text = text;
      first_look = look;
      files = files;
      idle = record { out = out; stopper = still; shares = none };
      err = told;
    })
words_end run answer files still out none (unread request is asks told) =
    ends.want_of_memory is (record { request = request; words = asks; files = files; stopper = inl still; out = out; shares = none; err = told })

-- ---- a refusal is told, or there was no memory for its line
pub problem_refuses : {V : Type 0} (items : V → List ℕ) (err : Change SinkState) (answer : ℕ) (error : ProblemError) (r : Result V NoMemory)
    → IfOk r (λ line. items line ≡ refused_line error) → IfOk r (λ line. (answer ≡ 3) × Sends err (items line))
    → (IsErr r → (answer ≡ 9) × Sends err (codes "want of memory\n")) → Refuses err answer (refusal.Problem error)
problem_refuses items err answer error (Ok line) same told none = steps.problem error told.0 (subst (Sends err) same told.1)
problem_refuses items err answer error (Err e) same told none = steps.unheard_problem error (none refl).0 (none refl).1

pub checkpoint_refuses : {V : Type 0} (items : V → List ℕ) (err : Change SinkState) (answer : ℕ) (error : CheckpointError) (r : Result V NoMemory)
    → IfOk r (λ line. items line ≡ refused_checkpoint_line error) → IfOk r (λ line. (answer ≡ 8) × Sends err (items line))
    → (IsErr r → (answer ≡ 9) × Sends err (codes "want of memory\n")) → Refuses err answer (refusal.Checkpoint error)
checkpoint_refuses items err answer error (Ok line) same told none = steps.checkpoint error told.0 (subst (Sends err) same told.1)
checkpoint_refuses items err answer error (Err e) same told none = steps.unheard_checkpoint error (none refl).0 (none refl).1

pub tree_refuses : {V : Type 0} (items : V → List ℕ) (err : Change SinkState) (answer : ℕ) (error : TreeTextError) (r : Result V NoMemory)
    → IfOk r (λ line. items line ≡ refused_tree_line error) → IfOk r (λ line. (answer ≡ 11) × Sends err (items line))
    → (IsErr r → (answer ≡ 9) × Sends err (codes "want of memory\n")) → Refuses err answer (refusal.Tree error)
tree_refuses items err answer error (Ok line) same told none = steps.tree error told.0 (subst (Sends err) same told.1)
tree_refuses items err answer error (Err e) same told none = steps.unheard_tree error (none refl).0 (none refl).1

pub range_refuses : {V : Type 0} (items : V → List ℕ) (err : Change SinkState) (answer count : ℕ) (r : Result V NoMemory)
    → IfOk r (λ line. items line ≡ refused_range_line count) → IfOk r (λ line. (answer ≡ 10) × Sends err (items line))
    → (IsErr r → (answer ≡ 9) × Sends err (codes "want of memory\n")) → Refuses err answer (refusal.Range count)
range_refuses items err answer count (Ok line) same told none = steps.range count told.0 (subst (Sends err) same told.1)
range_refuses items err answer count (Err e) same told none = steps.unheard_range count (none refl).0 (none refl).1
