use Rattle.std.proofs.Common.{refl, inl, subst, ap, sym, ◌∙◌, Err}
use Rattle.checkpoint.specs.Texts.{IsTextOf}
use Rattle.checkpoint.specs.Refusals.{IsCheckpointRefusal}
use Rattle.locus_core.specs.Steps.{read_fault, no_memory}
use Rattle.locus_core.proofs.Works.{resume_works, resume_refused}
use Rattle.locus_core.proofs.work.resume.Goals as goal

pub returns-in-Err-Failed : goal.returns-in-Err-Failed
returns-in-Err-Failed g c = read_fault c.args.request.file.now refl (c.load.ensures.failed (c.in-Err-Failed.is ∙ ap Err c.in-Err-Failed.field-0-is)) refl

pub returns-in-Err-NoMemory : goal.returns-in-Err-NoMemory
returns-in-Err-NoMemory g c =
    no_memory (c.load.ensures.unchanged (λ e. let bad = sym (c.in-Err-NoMemory.is ∙ ap Err c.in-Err-NoMemory.field-0-is) ∙ e in cc)) (inl refl)

pub returns-in-Ok-read : goal.returns-in-Ok-read
returns-in-Ok-read g c =
    resume_works _ _ _ c.in-Ok.bytes.items c.in-Ok-read.state c.go_on.result _ c.or_refusal.ensures (c.load.ensures.unchanged (λ e. let bad = sym c.in-Ok.is ∙ e in cc))
    c.in-Ok.ensures.found c.in-Ok-read.ensures.is_state (subst (IsTextOf c.in-Ok-read.state) c.as_slice.ensures.value c.in-Ok-read.ensures.state) c.go_on.ensures.done c.go_on.ensures.no_memory

pub returns-in-NoMemory : goal.returns-in-NoMemory
returns-in-NoMemory g c = no_memory (c.load.ensures.unchanged (λ e. let bad = sym c.in-Ok.is ∙ e in cc)) (inl refl)

pub returns : goal.returns
returns g c =
    resume_refused _ _ _ c.in-Ok.bytes.items c.in-Err.error c.in-Ok.ensures.found (subst (λ t. IsCheckpointRefusal t c.in-Err.error) c.as_slice.ensures.value (c.in-Err.ensures.refusal c.in_default.not-NoMemory)) (c.load.ensures.unchanged (λ e. let bad = sym c.in-Ok.is ∙ e in cc)) refl
