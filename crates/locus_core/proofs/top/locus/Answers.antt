use Rattle.locus_core.proofs.Consequences as consequences
use Rattle.locus_core.proofs.Decided as decisions
use Rattle.locus_core.proofs.Headline as headline
use Rattle.locus_core.proofs.Stops as stopping
use Rattle.locus_core.proofs.Chains as chaining
use Rattle.locus_core.proofs.Numbering as numbering
use Rattle.locus_core.proofs.top.locus.Goals as goal

pub returns-clause-known : goal.returns-clause-known
returns-clause-known g c = consequences.known _ _ c.end.ensures

pub returns-clause-words : goal.returns-clause-words
returns-clause-words g c = consequences.words _ _ c.end.ensures

pub returns-clause-accepted : goal.returns-clause-accepted
returns-clause-accepted g c = consequences.accepted _ _ c.end.ensures

pub returns-clause-absent : goal.returns-clause-absent
returns-clause-absent g c = consequences.absent _ _ c.end.ensures

pub returns-clause-make : goal.returns-clause-make
returns-clause-make g c = consequences.makes _ _ c.end.ensures

pub returns-clause-bad : goal.returns-clause-bad
returns-clause-bad g c = decisions.bad _ _ c.end.ensures

pub returns-clause-decided : goal.returns-clause-decided
returns-clause-decided g c = decisions.decided _ _ c.end.ensures

pub returns-clause-residues : goal.returns-clause-residues
returns-clause-residues g c = headline.sums _ _ c.end.ensures

pub returns-clause-refusal : goal.returns-clause-refusal
returns-clause-refusal g c = headline.refusal _ _ c.end.ensures

pub returns-clause-pause : goal.returns-clause-pause
returns-clause-pause g c = headline.pause _ _ c.end.ensures

pub returns-clause-claims : goal.returns-clause-claims
returns-clause-claims g c = headline.claims _ _ c.end.ensures

pub returns-clause-bytes : goal.returns-clause-bytes
returns-clause-bytes g c = headline.bytes _ _ c.end.ensures

pub returns-clause-stops : goal.returns-clause-stops
returns-clause-stops g c = stopping.stops _ _ c.end.ensures

pub returns-clause-chains : goal.returns-clause-chains
returns-clause-chains g c = chaining.ends_chains _ _ c.end.ensures

pub returns-clause-numbers : goal.returns-clause-numbers
returns-clause-numbers g c = numbering.numbers _ _ c.end.ensures

pub returns-clause-choice : goal.returns-clause-choice
returns-clause-choice g c = numbering.decides _ _ c.end.ensures

pub returns-clause-inverse : goal.returns-clause-inverse
returns-clause-inverse g c = numbering.undoes _ _ c.end.ensures
