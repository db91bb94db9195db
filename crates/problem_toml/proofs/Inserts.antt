-- The map of a table beside its members, and the values that are put into it.
use Rattle.std.proofs.Common.{◌≡◌, ℕ, ◌<◌, ◌≤◌, ◌+◌, List, [], ◌∷◌, ◌++◌, String, Global, BTreeMap, string_bytes, ℤ, map, drop, length, get_or, Ordering, Less, Equal, Greater, Vec, refl, sym, ap, ◌∙◌}
use Rattle.std.specs.String.{string_cmp}
use Rattle.std.specs.Ordering.{match_ordering}
use Rattle.std.specs.BTreeMap.{insert_entry}
use Rattle.std.proofs.lemmas.List.{drop_all, drop_more}
use Rattle.toml.specs.Data.{Items, no_items, item, push_item, Members, member, string, integer, array, table}
use Rattle.toml.specs.declared.value.Value.{Value, Integer, Array, Table, String as Text}
use Rattle.toml.specs.View.{view, members_view, items_view, table_view}
use Rattle.toml.proofs.Views.{view-Integer, view-Array, view-String, view-Table, items_view-push}
use Rattle.problem_toml.specs.Writing.{insert_member, integer_items, table_items}

step : (o : Ordering) (k : String Global) (v : Value) (e : String Global × Value) (es rest : List (String Global × Value)) (ms : Members)
    → members_view rest ≡ ms
    → members_view (match_ordering o ((k, v) ∷ e ∷ es) ((e.0, v) ∷ es) (e ∷ rest))
    ≡ match_ordering o (member (string_bytes k) (view v) (members_view (e ∷ es))) (member (string_bytes e.0) (view v) (members_view es)) (member (string_bytes e.0) (view e.1) ms)
step Less k v e es rest ms h = refl
step Equal k v e es rest ms h = refl
step Greater k v e es rest ms h = ap (member (string_bytes e.0) (view e.1)) h

pub members_view_insert : (k : String Global) (v : Value) (es : List (String Global × Value))
    → members_view (insert_entry string_cmp es k v) ≡ insert_member (string_bytes k) (view v) (members_view es)
members_view_insert k v [] = refl
members_view_insert k v (e ∷ es) = step (string_cmp k e.0) k v e es _ _ (members_view_insert k v es)

-- ---- values
integers_view : (zs : List ℤ) → items_view (map (λ z. Integer z) zs) ≡ integer_items zs
integers_view [] = refl
integers_view (z ∷ zs) = rw (view-Integer z, integers_view zs)

pub integer_seen : (z : ℤ) → view (Integer z) ≡ integer z
integer_seen z = view-Integer z

pub text_seen : (text : String Global) → view (Text text) ≡ string (string_bytes text)
text_seen text = view-String text

pub array_seen : (v : Vec Value Global) (zs : List ℤ) → v.items ≡ map (λ z. Integer z) zs
    → view (Array v) ≡ array (integer_items zs)
array_seen v zs e = view-Array v ∙ rw (e, integers_view zs)

pub tables_seen : (v : Vec Value Global) → view (Array v) ≡ array (items_view v.items)
tables_seen v = view-Array v

-- ---- tables that are made one after another
-- items, and those of some tables after them
abbrev pub and_tables : Items → List Members → Items
and_tables no_items docs = table_items docs
and_tables (item d ds) docs = item d (and_tables ds docs)

push_and : (ds : Items) (doc : Members) (docs : List Members)
    → and_tables (push_item ds (table doc)) docs ≡ and_tables ds (doc ∷ docs)
push_and no_items doc docs = refl
push_and (item d ds) doc docs = ap (item d) (push_and ds doc docs)

and_none : (ds : Items) → and_tables ds [] ≡ ds
and_none no_items = refl
and_none (item d ds) = ap (item d) (and_none ds)

pub tables_next : {X : Type 0} (f : X → Members) (values : List Value) (t : BTreeMap (String Global) Value) (xs : List X) (i : ℕ) (x : X)
    → i < length xs → table_view t ≡ f (get_or xs i x)
    → and_tables (items_view (values ++ Table t ∷ [])) (map f (drop (i + 1) xs))
    ≡ and_tables (items_view values) (map f (drop i xs))
tables_next f values t xs i x inside is =
    ap (λ ds. and_tables ds (map f (drop (i + 1) xs)))
    (items_view-push values (Table t) ∙ ap (push_item (items_view values)) (view-Table t ∙ ap table is))
    ∙ push_and (items_view values) (f (get_or xs i x)) (map f (drop (i + 1) xs))
    ∙ ap (λ l. and_tables (items_view values) (map f l)) (sym (drop_more xs i x inside))

pub tables_all : {X : Type 0} (f : X → Members) (values : List Value) (xs : List X) (i : ℕ) → length xs ≤ i
    → and_tables (items_view values) (map f (drop i xs)) ≡ items_view values
tables_all f values xs i over =
    ap (λ l. and_tables (items_view values) (map f l)) (drop_all i xs over) ∙ and_none (items_view values)
