use Rattle.std.proofs.Common.{[], ◌∷◌, ◌++◌, take, append_assoc, ap, ◌∙◌}
use Rattle.factor_table.proofs.InitialWords.{take_next}
use Rattle.factor_table.proofs.opening.push_moduli.Goals as goal

pub loop-index-preserved : goal.loop-index-preserved
loop-index-preserved c =
    let moduli = c.args.moduli.now in let i = c.loop-index.index in let before = c.args.words.now.items in
    c.in_ok-push.ensures.items ∙ ap (λ l. l ++ c.get-in-loop-index.result ∷ []) c.loop-index.invariant
    ∙ ap (λ x. before ++ take i moduli ++ x ∷ []) c.get-in-loop-index.ensures.value
    ∙ append_assoc before (take i moduli) (c.get.result.now ∷ [])
    ∙ ap (λ l. before ++ l) (take_next moduli i c.get.result.now c.get.ensures)
