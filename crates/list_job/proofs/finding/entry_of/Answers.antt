use Rattle.std.proofs.Common.{◌-◌, sym, ap, ◌∙◌}
use Rattle.std.specs.Option.{option_map}
use Rattle.list_job.specs.declared.part.ListPart.{ListPart}
use Rattle.list_job.specs.Parts.{entry_at}
use Rattle.list_job.specs.Jobs.{view}
use Rattle.list_job.proofs.OneEntry.{found_entry, some_entry}
use Rattle.list_job.proofs.finding.entry_of.Goals as goal

pub returns-in-Some : goal.returns-in-Some
returns-in-Some c =
    found_entry (view c.args.job.now) c.args.parts.now c.args.number c.loop-part.part-index c.part-item.result c.in-Some.entry.now
    c.requires.listed c.requires.from c.requires.below c.loop-part-test.true
    (ap (λ (p : ListPart). entry_at p (c.args.number - c.args.job.now.first)) (sym c.part-item.is)
    ∙ sym c.entry.ensures
    ∙ ap (option_map (λ e. e.now)) c.in-Some.is)

pub unreachable-requires : goal.unreachable-requires
unreachable-requires c =
    some_entry (view c.args.job.now) c.args.parts.now c.args.number c.loop-part.part-index
    c.requires.listed c.requires.from c.requires.below c.loop-part-test.false c.loop-part.invariant
