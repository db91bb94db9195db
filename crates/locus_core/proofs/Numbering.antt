-- What `rank` and `unrank` print, when they are refused, and that each undoes the other, and the same of `trees`: read off from
-- how the run ended.
use Rattle.std.proofs.Common.{◌≡◌, ◌≢◌, ◌⊎◌, ℕ, inl, inr, ◌<◌, ◌≤◌, ◌^◌, true, List, [], ◌++◌, Some, Ok, codes, decimal, refl, sym, ap, ◌∙◌, subst, arith}
use Rattle.std.proofs.lemmas.Bool.{cases_eq}
use Rattle.std.proofs.lemmas.Fmt.{decimal_injective}
use Rattle.std.proofs.lemmas.Option.{same_Some}
use Rattle.std.proofs.lemmas.List.{append_cancel_left, append_cancel_right}
use Rattle.trees.specs.Decorated.{DecoratedTree, TreeShape, is_decorated}
use Rattle.trees.specs.Texts.{tree_text}
use Rattle.trees.specs.TreeNumbers.{tree_of, number_of}
use Rattle.trees.proofs.AllTrees.{in_all_trees, is_in_all_trees}
use Rattle.trees.proofs.TreeNumbers.{tree_of_decorated, number_of-tree_of, number_of_below, tree_of-number_of}
use Rattle.decorated_tree.specs.Shapes.{within_limits}
use Rattle.tree_text.specs.Grammar.{HasText, IsTextOfTree}
use Rattle.tree_text.specs.Refusals.{IsRefusal}
use Rattle.tree_text.specs.Steps.{parts_view, IsTextOfParts}
use Rattle.tree_text.specs.declared.error.TreeTextError.{TreeTextError}
use Rattle.tree_text.specs.declared.error.TreeTextError.TheVariants.{Syntax, NotOfShape}
use Rattle.tree_text.proofs.Refused.{only_parts}
use Rattle.tree_text.proofs.Runs.{parts_of}
use Rattle.tree_text.proofs.Trees.{has_text}
use Rattle.locus_io.specs.Content.{NamedFiles}
use Rattle.problem.specs.Rules.{ProblemView}
use Rattle.problem.specs.Sums.{count_of}
use Rattle.problem_toml.specs.Reading.{reading}
use Rattle.command_line.specs.Requests.{Request, resume, make, trees, rank, unrank}
use Rattle.command_line.specs.declared.table.Commands.TheVariants.{Built}
use Rattle.command_line.proofs.Within.{asked_within}
use Rattle.locus_core.specs.Words.{AsksFor}
use Rattle.locus_core.specs.Texts.{number_line, tree_line}
use Rattle.locus_core.specs.Outside.{Change, FilesState, StopperState, TakesText}
use Rattle.locus_core.specs.Comes.{Comes, summed, made, ranked, unranked, listed, HoldsProblem, IsOutOfRange, file_of_request, problem_file_of}
use Rattle.locus_core.specs.Ends.{Run, Ends, printed, words_refused, problem_refused, read_fault, write_fault, checkpoint_refused, want_of_memory, range_refused, tree_refused}
use Rattle.locus_core.specs.Headline.{AsksOf}
use Rattle.locus_core.specs.Chains.{HasPrinted}
use Rattle.locus_core.specs.Numbers.{PrintsNumber, PrintsTree, PrintsNumbers, IsRefusedUnless, DecidesNumbers, AsksOfBytes, PrintsBut, UndoesNumbers}
use Rattle.locus_core.proofs.Inversions.{same_request, same_bytes, same_file, one_problem, differ, text_begins_nothing}
use Rattle.locus_core.proofs.Consequences.{if_told, is_no_error, accepts_problem}
use Rattle.locus_core.proofs.Decided.{small_degree}
use Rattle.locus_core.proofs.Headline.{as_printed}
use Rattle.locus_core.proofs.TreeLists.{prints_list, lists}
use Rattle.locus_core.proofs.SameEnds.{same_text}

-- ---- texts of trees
-- a text is that of one decorated tree
one_tree : (s : TreeShape) (g h : DecoratedTree) → within_limits s ≡ true → is_decorated s g ≡ true → is_decorated s h ≡ true
    → tree_text g ≡ tree_text h → g ≡ h
one_tree s g h within first second same =
    let t = has_text s g within first in
    let of : IsTextOfParts (tree_text g) (parts_of g.edges g.degrees g.colours g.marks) = record { has = again t; is = refl } in
    sym (only_parts s (tree_text g) (parts_of g.edges g.degrees g.colours g.marks) within of g first refl) ∙ only_parts s (tree_text g) (parts_of g.edges g.degrees g.colours g.marks) within of h second same
  where
    again : HasText g → HasText (parts_view (parts_of g.edges g.degrees g.colours g.marks))
    again t = record {
      least_edges = t.least_edges;
      most_edges = t.most_edges;
      degrees = t.degrees;
      least_colours = t.least_colours;
      most_colours = t.most_colours;
      most_marks = t.most_marks;
      vertices = refl;
      small_ends = t.small_ends;
      small_degrees = t.small_degrees;
      small_colours = t.small_colours;
      small_marks = t.small_marks;
    }

-- a text that is refused is that of no decorated tree
no_tree : (s : TreeShape) (text : List ℕ) (error : TreeTextError) → within_limits s ≡ true → IsRefusal s text error → IsTextOfTree s text → ⊥
no_tree s text (Syntax place) within h t = h.0 (record { parts = t.tree; has = has_text s t.tree within t.decorated; is = t.is })
no_tree s text NotOfShape within h t = h.1 t

-- ---- what a request for a number or a tree came to
abbrev name_in : Request → List ℕ
name_in (rank name text) = name
name_in (unrank name number) = name
name_in _ = []

abbrev text_in : Request → List ℕ
text_in (rank name text) = text
text_in _ = []

abbrev number_in : Request → ℕ
number_in (unrank name number) = number
number_in _ = 0

record CameByRank (files : Change FilesState) (name text : List ℕ) (n : ℕ) (line : List ℕ) : Type 0 where
  problem : ProblemView
  tree : DecoratedTree
  file : HoldsProblem files name problem
  decorated : is_decorated problem.shape tree ≡ true
  is : text ≡ tree_text tree
  zero : n ≡ 0
  line_is : line ≡ number_line (number_of problem.shape tree)

came_by_rank : {files : Change FilesState} {stopper : Change StopperState} {shares : List ℕ} {request : Request} {n : ℕ} {line : List ℕ} (name text : List ℕ)
    → Comes files stopper shares request n line → request ≡ rank name text → CameByRank files name text n line
came_by_rank {files} name text (ranked other t p g h decorated has none still) e = record {
  problem = p;
  tree = g;
  file = subst (λ x. HoldsProblem files x p) (ap name_in e) h;
  decorated = decorated;
  is = sym (ap text_in e) ∙ has;
  zero = refl;
  line_is = refl;
}
came_by_rank {files} name text (summed request b outcome n line begins sums answer) e =
    absurd (text_begins_nothing files request b begins (inr (inr (inl (name, text, e)))))
came_by_rank name text (listed other low high workers p h range shares still) e =
    absurd (differ (trees other low high workers) (rank name text) e (λ x. cc))
came_by_rank name text (made k line reads none still) e = absurd (differ (make k) (rank name text) e (λ x. cc))
came_by_rank name text (unranked other p k h below none still) e = absurd (differ (unrank other k) (rank name text) e (λ x. cc))

record CameByUnrank (files : Change FilesState) (name : List ℕ) (number n : ℕ) (line : List ℕ) : Type 0 where
  problem : ProblemView
  file : HoldsProblem files name problem
  below : number < count_of problem
  zero : n ≡ 0
  line_is : line ≡ tree_line (tree_of problem.shape number)

came_by_unrank : {files : Change FilesState} {stopper : Change StopperState} {shares : List ℕ} {request : Request} {n : ℕ} {line : List ℕ} (name : List ℕ) (number : ℕ)
    → Comes files stopper shares request n line → request ≡ unrank name number → CameByUnrank files name number n line
came_by_unrank {files} name number (unranked other p k h below none still) e =
    let same : k ≡ number = ap number_in e in
    record {
      problem = p;
      file = subst (λ x. HoldsProblem files x p) (ap name_in e) h;
      below = subst (λ x. x < count_of p) same below;
      zero = refl;
      line_is = ap (λ x. tree_line (tree_of p.shape x)) same;
    }
came_by_unrank {files} name number (summed request b outcome n line begins sums answer) e =
    absurd (text_begins_nothing files request b begins (inr (inr (inr (name, number, e)))))
came_by_unrank name number (listed other low high workers p h range shares still) e =
    absurd (differ (trees other low high workers) (unrank name number) e (λ x. cc))
came_by_unrank name number (made k line reads none still) e = absurd (differ (make k) (unrank name number) e (λ x. cc))
came_by_unrank name number (ranked other t p g h decorated has none still) e = absurd (differ (rank other t) (unrank name number) e (λ x. cc))

-- ---- what is printed
pub numbers : (r : Run) (n : ℕ) → Ends r n → PrintsNumbers r n
numbers r n e zero = (by_rank, by_unrank, prints_list r n e zero)
  where
    by_rank : (name text : List ℕ) → AsksFor r.words (rank name text) → PrintsNumber r name text
    by_rank name text asks = as_printed r n (inl (inl zero)) e (λ request line words comes out.
        let c = came_by_rank name text comes (same_request r request (rank name text) words asks) in
        record {
          problem = c.problem;
          tree = c.tree;
          file = c.file;
          listed = in_all_trees c.problem.shape c.tree (small_degree c.problem c.file.rules) c.decorated;
          is = c.is;
          out = subst (TakesText r.out) c.line_is out;
        })

    by_unrank : (name : List ℕ) (number : ℕ) → AsksFor r.words (unrank name number) → PrintsTree r name number
    by_unrank name number asks = as_printed r n (inl (inl zero)) e (λ request line words comes out.
        let c = came_by_unrank name number comes (same_request r request (unrank name number) words asks) in
        record { problem = c.problem; file = c.file; below = c.below; out = subst (TakesText r.out) c.line_is out })

-- ---- when they are refused
-- the bytes of the file that is asked for are read
reads_so : (r : Run) (told : NamedFiles) (request : Request) (bytes name : List ℕ) (q : ProblemView) → r.files.before.content ≡ Some told
    → AsksOf r told request bytes → file_of_request request ≡ Some name → HoldsProblem r.files name q → reading bytes ≡ Ok q
reads_so r told request bytes name q is asks named h =
    let same = same_file request request asks.name name refl asks.asked named in
    let b : bytes ≡ h.bytes = same_bytes r.files told asks.name name bytes h.bytes is same asks.file h.file in
    ap reading b ∙ h.reads

ranks : (r : Run) (n : ℕ) → Ends r n → (told : NamedFiles) → r.files.before.content ≡ Some told → (bytes : List ℕ) (p : ProblemView) → n ≢ 6 → n ≢ 9
    → reading bytes ≡ Ok p → (name text : List ℕ) → AsksOf r told (rank name text) bytes → IsRefusedUnless (IsTextOfTree p.shape text) 11 r n
ranks r n e told is bytes p six nine reads name text asks = by_end e
  where
    fine : {m : ℕ} {line : List ℕ} → CameByRank r.files name text m line → IsTextOfTree p.shape text
    fine c = subst (λ q. IsTextOfTree q.shape text) (one_problem r told (rank name text) bytes name p c.problem is asks refl reads c.file)
        (record { tree = c.tree; decorated = c.decorated; is = c.is })

    same : (other : Request) → AsksFor r.words other → other ≡ rank name text
    same other words = same_request r other (rank name text) words asks.words

    by_end : Ends r n → IsRefusedUnless (IsTextOfTree p.shape text) 11 r n
    by_end (printed w) = let c = came_by_rank name text w.comes (same w.request w.words) in inl (fine c, inl c.zero)
    by_end (write_fault seven w) =
        inl (fine (came_by_rank name text w.comes (same w.request w.words)), inr (seven, w.out.fault))
    by_end (words_refused two w) = absurd (w.words (rank name text) asks.words)
    by_end (problem_refused three w) =
        absurd (is_no_error (reading bytes) p reads ((accepts_problem r n e told is (rank name text) bytes six nine refl asks).0 three))
    by_end (read_fault fault w) = absurd (six fault)
    by_end (checkpoint_refused eight w) = absurd (differ (resume w.sum) (rank name text) (same (resume w.sum) w.words) (λ x. cc))
    by_end (want_of_memory memory w) = absurd (nine memory)
    by_end (range_refused ten w) = absurd (subst (IsOutOfRange w.problem) (same w.request w.words) w.out_of_range)
    by_end (tree_refused eleven w) =
        let s = same (rank w.name w.text) w.words in
        let file = subst (λ x. HoldsProblem r.files x w.problem) (ap name_in s) w.file in
        let one = one_problem r told (rank name text) bytes name p w.problem is asks refl reads file in
        inr (
          λ t. no_tree w.problem.shape w.text w.error w.file.rules.shape w.refused
              (subst (λ q. IsTextOfTree q.shape w.text) (sym one) (subst (IsTextOfTree p.shape) (sym (ap text_in s)) t)),
          eleven,
        )

unranks : (r : Run) (n : ℕ) → Ends r n → (told : NamedFiles) → r.files.before.content ≡ Some told → (bytes : List ℕ) (p : ProblemView) → n ≢ 6 → n ≢ 9
    → reading bytes ≡ Ok p → (name : List ℕ) (number : ℕ) → AsksOf r told (unrank name number) bytes → IsRefusedUnless (number < count_of p) 10 r n
unranks r n e told is bytes p six nine reads name number asks = by_end e
  where
    fine : {m : ℕ} {line : List ℕ} → CameByUnrank r.files name number m line → number < count_of p
    fine c = subst (λ q. number < count_of q) (one_problem r told (unrank name number) bytes name p c.problem is asks refl reads c.file) c.below

    same : (other : Request) → AsksFor r.words other → other ≡ unrank name number
    same other words = same_request r other (unrank name number) words asks.words

    by_end : Ends r n → IsRefusedUnless (number < count_of p) 10 r n
    by_end (printed w) = let c = came_by_unrank name number w.comes (same w.request w.words) in inl (fine c, inl c.zero)
    by_end (write_fault seven w) =
        inl (fine (came_by_unrank name number w.comes (same w.request w.words)), inr (seven, w.out.fault))
    by_end (words_refused two w) = absurd (w.words (unrank name number) asks.words)
    by_end (problem_refused three w) =
        absurd (is_no_error (reading bytes) p reads ((accepts_problem r n e told is (unrank name number) bytes six nine refl asks).0 three))
    by_end (read_fault fault w) = absurd (six fault)
    by_end (checkpoint_refused eight w) = absurd (differ (resume w.sum) (unrank name number) (same (resume w.sum) w.words) (λ x. cc))
    by_end (want_of_memory memory w) = absurd (nine memory)
    by_end (tree_refused eleven w) =
        absurd (differ (rank w.name w.text) (unrank name number) (same (rank w.name w.text) w.words) (λ x. cc))
    by_end (range_refused ten w) =
        let s = same w.request w.words in
        let file = subst (λ x. HoldsProblem r.files x w.problem) (same_Some w.name name (sym w.asked ∙ ap problem_file_of s)) w.file in
        let one = one_problem r told (unrank name number) bytes name p w.problem is asks refl reads file in
        let above : count_of p ≤ number = subst (λ q. count_of q ≤ number) one (subst (IsOutOfRange w.problem) s w.out_of_range) in
        inr (λ below. omega (arith, above, below), ten)

pub decides : (r : Run) (n : ℕ) → Ends r n → DecidesNumbers r n
decides r n e = if_told r.files.before.content _ (λ told is bytes p six nine reads. (
  λ name text asks. ranks r n e told is bytes p six nine reads name text asks,
  λ name number asks. unranks r n e told is bytes p six nine reads name number asks,
  λ name low high workers asks. lists r n e told is bytes p six nine reads name low high workers asks,
))

-- ---- two runs
-- a run that is served, and whose output takes what is printed, ends with status 0
served : (P : Type 0) (refusal : ℕ) (r : Run) (n : ℕ) → P → n ≢ 7 → IsRefusedUnless P refusal r n → n ≡ 0
served P refusal r n holds seven (inl (fine, inl zero)) = zero
served P refusal r n holds seven (inl (fine, inr (fault, rose))) = absurd (seven fault)
served P refusal r n holds seven (inr (none, is)) = absurd (none holds)

-- or there was a fault, or memory was refused
unless_fault : (n : ℕ) (P : Type 0) → (n ≢ 6 → n ≢ 7 → n ≢ 9 → P) → P ⊎ (n ≡ 6) ⊎ (n ≡ 7) ⊎ (n ≡ 9)
unless_fault n P f = by_six (cases_eq n 6) (cases_eq n 7) (cases_eq n 9)
  where
    by_six : (n ≡ 6) ⊎ (n ≢ 6) → (n ≡ 7) ⊎ (n ≢ 7) → (n ≡ 9) ⊎ (n ≢ 9) → P ⊎ (n ≡ 6) ⊎ (n ≡ 7) ⊎ (n ≡ 9)
    by_six (inl six) b c = inr (inl six)
    by_six (inr a) (inl seven) c = inr (inr (inl seven))
    by_six (inr a) (inr b) (inl nine) = inr (inr (inr nine))
    by_six (inr a) (inr b) (inr c) = inl (f a b c)

rank_again : (r other : Run) (n : ℕ) (bytes name other_name text : List ℕ) (number : ℕ) → Ends r n → Ends other 0
    → AsksOfBytes other (unrank other_name number) bytes → HasPrinted other (text ++ codes "\n") → AsksOfBytes r (rank name text) bytes
    → PrintsBut (number_line number) r n
rank_again r other n bytes name other_name text number e ends a h b = unless_fault n _ (λ six seven nine. by_status six seven nine)
  where
    u : PrintsTree other other_name number
    u = (numbers other 0 ends refl).1 other_name number a.asks.words

    small : u.problem.shape.degree < 11
    small = small_degree u.problem u.file.rules

    is : text ≡ tree_text (tree_of u.problem.shape number)
    is = sym (append_cancel_right (tree_text (tree_of u.problem.shape number)) text (codes "\n") (same_text other (text ++ codes "\n") _ h u.out))

    decorated : is_decorated u.problem.shape (tree_of u.problem.shape number) ≡ true
    decorated = tree_of_decorated u.problem.shape number small u.below

    reads : reading bytes ≡ Ok u.problem
    reads = reads_so other a.told (unrank other_name number) bytes other_name u.problem a.files a.asks refl u.file

    by_status : n ≢ 6 → n ≢ 7 → n ≢ 9 → (n ≡ 0) × TakesText r.out (number_line number)
    by_status six seven nine =
        let fine : IsTextOfTree u.problem.shape text = record { tree = tree_of u.problem.shape number; decorated = decorated; is = is } in
        let zero = served _ 11 r n fine seven (ranks r n e b.told b.files bytes u.problem six nine reads name text b.asks) in
        let p = (numbers r n e zero).0 name text b.asks.words in
        let same = one_problem r b.told (rank name text) bytes name u.problem p.problem b.files b.asks refl reads p.file in
        let found = subst (λ q. is_decorated q.shape p.tree ≡ true) same (is_in_all_trees p.problem.shape p.tree p.listed) in
        let tree = one_tree u.problem.shape p.tree (tree_of u.problem.shape number) u.file.rules.shape found decorated (sym p.is ∙ is) in
        let line : number_of p.problem.shape p.tree ≡ number =
        ap (λ q. number_of q.shape p.tree) same ∙ ap (number_of u.problem.shape) tree ∙ number_of-tree_of u.problem.shape number small u.below in
        (zero, subst (λ k. TakesText r.out (number_line k)) line p.out)

-- lines of numbers that differ are different
one_number : (k l : ℕ) → k ≤ 2 ^ 40 → l ≤ 2 ^ 40 → number_line k ≡ number_line l → k ≡ l
one_number k l small few e =
    decimal_injective k l (omega (arith, small)) (omega (arith, few))
    (append_cancel_right (decimal k) (decimal l) (codes "\n") (append_cancel_left (codes "number ") (decimal k ++ codes "\n") (decimal l ++ codes "\n") e))

unrank_again : (r other : Run) (n : ℕ) (bytes name other_name text : List ℕ) (number : ℕ) → Ends r n → Ends other 0
    → AsksOfBytes other (rank other_name text) bytes → HasPrinted other (number_line number) → AsksOfBytes r (unrank name number) bytes
    → PrintsBut (text ++ codes "\n") r n
unrank_again r other n bytes name other_name text number e ends a h b = unless_fault n _ (λ six seven nine. by_status six seven nine)
  where
    u : PrintsNumber other other_name text
    u = (numbers other 0 ends refl).0 other_name text a.asks.words

    small : u.problem.shape.degree < 11
    small = small_degree u.problem u.file.rules

    decorated : is_decorated u.problem.shape u.tree ≡ true
    decorated = is_in_all_trees u.problem.shape u.tree u.listed

    below : number_of u.problem.shape u.tree < count_of u.problem
    below = number_of_below u.problem.shape u.tree small decorated

    is : number_of u.problem.shape u.tree ≡ number
    is = let few = u.file.rules.few_trees in
        one_number (number_of u.problem.shape u.tree) number (omega (arith, below, few)) (asked_within Built r.words (unrank name number) b.asks.words)
        (same_text other (number_line number) _ h u.out)

    reads : reading bytes ≡ Ok u.problem
    reads = reads_so other a.told (rank other_name text) bytes other_name u.problem a.files a.asks refl u.file

    by_status : n ≢ 6 → n ≢ 7 → n ≢ 9 → (n ≡ 0) × TakesText r.out (text ++ codes "\n")
    by_status six seven nine =
        let fine : number < count_of u.problem = subst (λ k. k < count_of u.problem) is below in
        let zero = served _ 10 r n fine seven (unranks r n e b.told b.files bytes u.problem six nine reads name number b.asks) in
        let p = (numbers r n e zero).1 name number b.asks.words in
        let same = one_problem r b.told (unrank name number) bytes name u.problem p.problem b.files b.asks refl reads p.file in
        let tree : tree_of p.problem.shape number ≡ u.tree =
        ap (λ q. tree_of q.shape number) same ∙ ap (tree_of u.problem.shape) (sym is) ∙ tree_of-number_of u.problem.shape u.tree small decorated in
        (zero, subst (λ t. TakesText r.out (t ++ codes "\n")) (ap tree_text tree ∙ sym u.is) p.out)

pub undoes : (r : Run) (n : ℕ) → Ends r n → UndoesNumbers r n
undoes r n e = record {
  rank_unranked = λ other bytes name other_name text number ends a h b. rank_again r other n bytes name other_name text number e ends a h b;
  unrank_ranked = λ other bytes name other_name text number ends a h b. unrank_again r other n bytes name other_name text number e ends a h b;
}
