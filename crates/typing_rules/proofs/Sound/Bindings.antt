-- The names that patterns bind, as they are threaded through the parts of a pattern.
use Rattle.std.proofs.Common.{◌≡◌, ℕ, suc, ◌≤◌, Bool, true, false, ◌||◌, not, if◌then◌else◌, List, [], ◌∷◌, ◌++◌, map, Some, IsTrue, refl, ap, sym, subst, ◌∙◌, arith}
use Rattle.std.specs.Prelude.{is_some}
use Rattle.std.specs.List.{list_any, filter_map}
use Rattle.std.specs.Str.{bytes_eq}
use Rattle.std.proofs.lemmas.List.{append_assoc, map-append}
use Rattle.std.proofs.lemmas.List.Elements.{filter_map-append}
use Rattle.mir_ty.specs.ItemTable.{ItemTable}
use Rattle.typed_tree.specs.Tree.{Node}
use Rattle.well_typed.specs.Names.{are_distinct, is_among}
use Rattle.well_typed.specs.Patterns.{binding_name, binding_entry}
use Rattle.well_typed.proofs.ClaimLemmas.{and_true, true_left, true_right}
use Rattle.typing_rules.specs.Check.{TypingState}
use Rattle.typing_rules.specs.Promises.{IsReady, in_scope, key_of, are_bound, AreFresh, AreReadyTypes}
use Rattle.typing_rules.specs.Scope.{NamedEntry, Local, variable}

abbrev pub words : List NamedEntry → List (List ℕ)
words xs = map (λ (x : NamedEntry). x.name) xs

-- the names of some nodes, after earlier ones
pub record Binds (earlier : List NamedEntry) (n : ℕ) (nodes : List Node) (w : TypingState) (out : List NamedEntry) : Type 0 where
  pub new_ : List NamedEntry
  pub is : out ≡ earlier ++ new_
  pub entries : filter_map binding_entry nodes ≡ are_bound false new_
  pub names : filter_map binding_name nodes ≡ words new_
  pub distinct : IsTrue (are_distinct (words earlier)) → IsTrue (are_distinct (words out))
  pub fresh : AreFresh n new_ w.next_node
  pub types : AreReadyTypes w.items new_

-- ---- lists

append_none : {A : Type 0} (xs : List A) → xs ++ [] ≡ xs
append_none [] = refl
append_none (x ∷ xs) = ap (λ ys. x ∷ ys) (append_none xs)

abbrev tail_of : {A : Type 0} → List A → List A
tail_of [] = []
tail_of (x ∷ xs) = xs

append_same : {A : Type 0} (xs a b : List A) → xs ++ a ≡ xs ++ b → a ≡ b
append_same [] a b h = h
append_same (x ∷ xs) a b h = append_same xs a b (ap tail_of h)

bound_join : (guard : Bool) (xs ys : List NamedEntry) → are_bound guard (xs ++ ys) ≡ are_bound guard xs ++ are_bound guard ys
bound_join guard [] ys = refl
bound_join guard (x ∷ xs) ys = ap (λ es. in_scope (key_of x.meaning) x.ty guard ∷ es) (bound_join guard xs ys)

pub fresh_from : (n m k : ℕ) (xs : List NamedEntry) → n ≤ m → AreFresh m xs k → AreFresh n xs k
fresh_from n m k [] le h = omega (arith, le, h)
fresh_from n m k (x ∷ xs) le h = (h.0, omega (arith, le, h.1), h.2)

fresh_join : (n m k : ℕ) (xs ys : List NamedEntry) → AreFresh n xs m → AreFresh m ys k → AreFresh n (xs ++ ys) k
fresh_join n m k [] ys h g = fresh_from n m k ys h g
fresh_join n m k (x ∷ xs) ys h g = (h.0, h.1, fresh_join (suc (key_of x.meaning)) m k xs ys h.2 g)

types_join : (items : ItemTable) (xs ys : List NamedEntry) → AreReadyTypes items xs → AreReadyTypes items ys →
    AreReadyTypes items
    (xs ++ ys)
types_join items [] ys h g = g
types_join items (x ∷ xs) ys h g = (h.0, types_join items xs ys h.1 g)

-- ---- rules

pub binds_none : (earlier : List NamedEntry) (n : ℕ) (nodes : List Node) (w : TypingState) → n ≤ w.next_node → filter_map
    binding_entry
    nodes ≡ [] → filter_map binding_name nodes ≡ [] → Binds earlier n nodes w earlier
binds_none earlier n nodes w le entries names =
    record {
      new_ = [];
      is = sym (append_none earlier);
      entries = entries;
      names = names;
      distinct = λ h. h;
      fresh = le;
      types = tt;
    }

pub binds_from : (earlier : List NamedEntry) (n m : ℕ) (nodes : List Node) (w : TypingState) (out : List NamedEntry) → n ≤ m → Binds
    earlier m
    nodes w out → Binds earlier n nodes w out
binds_from earlier n m nodes w out le b =
    record {
      new_ = b.new_;
      is = b.is;
      entries = b.entries;
      names = b.names;
      distinct = b.distinct;
      fresh = fresh_from n m w.next_node b.new_ le b.fresh;
      types = b.types;
    }

-- the names of some nodes, and then those of others
pub binds_join : (earlier middle out : List NamedEntry) (n : ℕ) (first rest : List Node) (t w : TypingState) → Binds earlier n
    first t
    middle → Binds earlier n first w middle → Binds middle t.next_node rest w out → Binds earlier n (first ++ rest) w
    out
binds_join earlier middle out n first rest t w now later next =
    record {
      new_ = later.new_ ++ next.new_;
      is = next.is ∙ (ap (λ xs. xs ++ next.new_) later.is ∙ append_assoc earlier later.new_ next.new_);
      entries = filter_map-append binding_entry first rest ∙ ((λ i. later.entries i ++ next.entries i) ∙ sym
          (bound_join false
          later.new_ next.new_));
      names = filter_map-append binding_name first rest ∙ ((λ i. later.names i ++ next.names i) ∙ sym (map-append (λ
          (x :
          NamedEntry). x.name) later.new_ next.new_));
      distinct = λ h. next.distinct (later.distinct h);
      fresh = fresh_join n t.next_node w.next_node later.new_ next.new_ (subst (λ xs. AreFresh n xs t.next_node)
          (append_same
          earlier now.new_ later.new_ (sym now.is ∙ later.is)) now.fresh) next.fresh;
      types = types_join w.items later.new_ next.new_ later.types next.types;
    }

-- ---- one more name

no_any : {A : Type 0} (p : A → Bool) (xs : List A) (x : A) → IsTrue (not (list_any p xs)) → IsTrue (not (p x)) →
    IsTrue (not
    (list_any p (xs ++ x ∷ [])))
no_any p [] x h g = by (p x) g
  where
    by : (b : Bool) → IsTrue (not b) → IsTrue (not (b || false))
    by true g = g
    by false g = refl
no_any p (y ∷ ys) x h g = by (p y) h (λ k. no_any p ys x k g)
  where
    by : (b : Bool) → IsTrue (not (b || list_any p ys)) → (IsTrue (not (list_any p ys)) → IsTrue (not (list_any p (ys
        ++ x ∷
        [])))) → IsTrue (not (b || list_any p (ys ++ x ∷ [])))
    by true h on = absurd (let no_ : IsTrue false = h in cc)
    by false h on = on h

distinct_more : (xs : List NamedEntry) (x : NamedEntry) → IsTrue (are_distinct (words xs)) → IsTrue (not (is_some (variable xs
    x.name)))
    → IsTrue (are_distinct (words xs ++ x.name ∷ []))
distinct_more [] x h g = refl
distinct_more (y ∷ ys) x h g =
    by (distinct_more ys x (true_right (not (is_among y.name (words ys))) _ h)) (bytes_eq y.name x.name) refl g
  where
    by : (IsTrue (not (is_some (variable ys x.name))) → IsTrue (are_distinct (words ys ++ x.name ∷ []))) → (b : Bool) →
        bytes_eq y.name x.name ≡ b → IsTrue (not (is_some (if b then Some y else variable ys x.name))) → IsTrue
        (are_distinct (words (y ∷ ys) ++ x.name ∷ []))
    by on true e g = absurd (let no_ : IsTrue false = g in cc)
    by on false e g =
        and_true _ _ (no_any (bytes_eq y.name) (words ys) x.name (true_left (not (is_among y.name (words ys))) _ h)
        (subst (λ
        b. IsTrue (not b)) (sym e) refl)) (on g)

pub binds_one : (earlier : List NamedEntry) (n : ℕ) (nodes : List Node) (w : TypingState) (x : NamedEntry) (key : ℕ) → x.meaning ≡
    Local key →
    n ≤ key → suc key ≤ w.next_node → IsReady w.items x.ty → filter_map binding_entry nodes ≡ in_scope key x.ty false
    ∷ [] →
    filter_map binding_name nodes ≡ x.name ∷ [] → IsTrue (not (is_some (variable earlier x.name))) → Binds earlier n
    nodes w
    (earlier ++ x ∷ [])
binds_one earlier n nodes w x key is le below ready entries names new_name =
    record {
      new_ = x ∷ [];
      is = refl;
      entries = entries ∙ ap (λ k. in_scope k x.ty false ∷ []) (sym key_is);
      names = names;
      distinct = λ h. subst (λ ws. IsTrue (are_distinct ws)) (sym (map-append (λ (y : NamedEntry). y.name) earlier (x ∷ [])))
          (distinct_more earlier x h new_name);
      fresh = (is ∙ ap Local (sym key_is), omega (arith, le, key_is), omega (arith, below, key_is));
      types = (ready, tt);
    }
  where
    key_is : key_of x.meaning ≡ key
    key_is = ap key_of is
