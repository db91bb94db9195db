use Rattle.std.proofs.Common.{sym, subst, refl}
use Rattle.command_line.specs.Requests.{request_of}
use Rattle.locus_core.specs.Outside.{files_change, stopper_change}
use Rattle.locus_core.specs.Steps.{IsWork}
use Rattle.locus_core.proofs.Works.{make_works, soak_works}
use Rattle.locus_core.proofs.work.work.Goals as goal

pub returns-in-Make : goal.returns-in-Make
returns-in-Make g c =
    let files = files_change g.F.Files.content g.F.Files.faults g.F.Files.last_fault c.args.files.now c.args.files.now in
    let stopper = stopper_change g.S.Stopper.stops g.S.Stopper.last_stop c.args.stopper.now c.args.stopper.now in
    subst (λ command. IsWork (request_of command) files stopper c.or_refusal.result) (sym c.in-Make.is)
    (make_works files stopper c.in-Make.number c.make.result c.or_refusal.result c.or_refusal.ensures refl refl c.make.ensures.status c.make.ensures.text c.make.ensures.shares)

pub returns-in-Soak : goal.returns-in-Soak
returns-in-Soak g c =
    let files = files_change g.F.Files.content g.F.Files.faults g.F.Files.last_fault c.args.files.now c.args.files.now in
    let stopper = stopper_change g.S.Stopper.stops g.S.Stopper.last_stop c.args.stopper.now c.soak.new.stopper in
    subst (λ command. IsWork (request_of command) files stopper c.or_refusal-in-Soak.result) (sym c.in-Soak.is)
    (soak_works files stopper c.in-Soak.number c.in-Soak.workers c.soak.result c.or_refusal-in-Soak.result c.or_refusal-in-Soak.ensures refl c.soak.ensures.done c.soak.ensures.no_memory)

pub returns-in-Trees : goal.returns-in-Trees
returns-in-Trees g c =
    let files = files_change g.F.Files.content g.F.Files.faults g.F.Files.last_fault c.args.files.now c.list.new.files in
    let stopper = stopper_change g.S.Stopper.stops g.S.Stopper.last_stop c.args.stopper.now c.args.stopper.now in
    subst (λ command. IsWork (request_of command) files stopper c.list.result) (sym c.in-Trees.is) (c.list.ensures stopper refl)

pub returns-in-Rank : goal.returns-in-Rank
returns-in-Rank g c =
    let files = files_change g.F.Files.content g.F.Files.faults g.F.Files.last_fault c.args.files.now c.rank.new.files in
    let stopper = stopper_change g.S.Stopper.stops g.S.Stopper.last_stop c.args.stopper.now c.args.stopper.now in
    subst (λ command. IsWork (request_of command) files stopper c.rank.result) (sym c.in-Rank.is) (c.rank.ensures stopper refl)

pub returns-in-Unrank : goal.returns-in-Unrank
returns-in-Unrank g c =
    let files = files_change g.F.Files.content g.F.Files.faults g.F.Files.last_fault c.args.files.now c.unrank.new.files in
    let stopper = stopper_change g.S.Stopper.stops g.S.Stopper.last_stop c.args.stopper.now c.args.stopper.now in
    subst (λ command. IsWork (request_of command) files stopper c.unrank.result) (sym c.in-Unrank.is) (c.unrank.ensures stopper refl)
