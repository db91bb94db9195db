use Rattle.std.proofs.Common.{Ok, sym, subst}
use Rattle.residue.specs.declared.class.Class.{Class}
use Rattle.residue.specs.Answers.{GivesResidue}
use Rattle.residue.proofs.Quotients.{whole_gives}
use Rattle.localisation.specs.Weights.{tangent_product}
use Rattle.localisation.specs.ClassValue.{class_edge, class_vertex}
use Rattle.factor_table.specs.declared.key.Key.{Key}
use Rattle.factor_table.specs.Factors.{fraction_of}
use Rattle.factor_table.proofs.Keys.{class_there}
use Rattle.factor_table.proofs.parameters.Parameters.factor.Goals as goal

pub returns-in-Tangent : goal.returns-in-Tangent
returns-in-Tangent c =
    subst (λ (key : Key). GivesResidue c.args.modulus.now (fraction_of c.args.self.now key) (Ok c.tangent.result))
    (sym c.in-Tangent.is)
    (whole_gives (tangent_product c.args.self.now.setup c.in-Tangent.c) c.tangent.ensures)

pub returns-in-ClassEdge : goal.returns-in-ClassEdge
returns-in-ClassEdge c =
    let p = c.args.self.now in
    let is = class_there p c.in-ClassEdge.class c.get-class.result.now c.get-class.ensures in
    subst (λ (key : Key). GivesResidue c.args.modulus.now (fraction_of p key) c.edge_part.result)
    (sym c.in-ClassEdge.is)
    (subst (λ (class : Class). GivesResidue c.args.modulus.now (class_edge p.setup class c.in-ClassEdge.i c.in-ClassEdge.j c.in-ClassEdge.a) c.edge_part.result) (sym is) c.edge_part.ensures)

pub returns-in-ClassVertex : goal.returns-in-ClassVertex
returns-in-ClassVertex c =
    let p = c.args.self.now in
    let is =
    class_there p c.in-ClassVertex.class c.get-class-in-ClassVertex.result.now c.get-class-in-ClassVertex.ensures in
    subst (λ (key : Key). GivesResidue c.args.modulus.now (fraction_of p key) c.vertex_part.result)
    (sym c.in-ClassVertex.is)
    (subst (λ (class : Class). GivesResidue c.args.modulus.now (class_vertex p.setup class c.in-ClassVertex.c c.in-ClassVertex.s) c.vertex_part.result) (sym is) c.vertex_part.ensures)
