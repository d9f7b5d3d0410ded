-- What the rule of borrows compares stands for the places that a run has: the place of an expression as the rule
-- sees it is the place as it is evaluated, up to the first index. Where two do not overlap, what they lead to is
-- apart.
use Rattle.std.proofs.Common.{◌≡◌, ◌≢◌, ℕ, ◌==◌, ◌&&◌, Bool, true, false, List, [], ◌∷◌, ◌++◌, Option, Some, None, if◌then◌else◌, refl, ap, sym, ◌∙◌, subst}
use Rattle.std.specs.Prelude.{option_map}
use Rattle.std.proofs.lemmas.Bool.{false≢true}
use Rattle.std.proofs.lemmas.Bool.Decides.{Decides-eqb}
use Rattle.mir_ty.specs.declared.ty.TyId.{TyId}
use Rattle.mir_ty.specs.ItemTable.{ItemTable}
use Rattle.store_model.specs.declared.address.At.{At}
use Rattle.store_model.specs.declared.address.At.TheVariants.{Part, Inside}
use Rattle.store_model.specs.Values.Access.{AreApart}
use Rattle.store_model.specs.Places.Place as places
use Rattle.store_model.specs.Places.Place.{Step, Place, whole_local}
use Rattle.typed_tree.specs.Tree as tree
use Rattle.typed_tree.specs.Tree.{Node, node, Form}
use Rattle.typed_tree.specs.Nodes.{number_of}
use Rattle.typed_tree.specs.declared.node.Use.{Use}
use Rattle.src_meaning.specs.Shape as shapes
use Rattle.src_meaning.specs.Shape.{extended, head, shape, shape_of}
use Rattle.typing_rules.specs.Accesses as rules
use Rattle.typing_rules.specs.Accesses.{AccessStep, AccessPlace, with_step, with_end, begin_alike, overlap, place_of, place_of_form}
use Rattle.soundness_values.proofs.Ways.{has_index}
use Rattle.soundness_values.specs.Frames.{Apart, other_local, other_part}

-- ---- steps that are compared, and the paths to which steps lead

-- what of a step is compared; an index ends the steps
abbrev pub seen : List Step → List AccessStep
seen [] = []
seen (places.ToPart n ∷ steps) = rules.ToPart n ∷ seen steps
seen (places.ToField variant n ∷ steps) = rules.ToPart n ∷ seen steps
seen (places.ToContent ∷ steps) = rules.ToContent ∷ seen steps
seen (places.ToElement index ∷ steps) = []

-- steps lead by a path, an index to some part
pub data LeadsBy : List Step → List At → Type 0 where
  no_steps : LeadsBy [] []
  by_part : (n : ℕ) (steps : List Step) (path : List At) → LeadsBy steps path → LeadsBy (places.ToPart n ∷ steps)
      (Part n ∷ path)
  by_field : (variant n : ℕ) (steps : List Step) (path : List At) → LeadsBy steps path →
      LeadsBy (places.ToField variant n ∷ steps) (Part n ∷ path)
  by_content : (steps : List Step) (path : List At) → LeadsBy steps path → LeadsBy (places.ToContent ∷ steps)
      (Inside ∷ path)
  by_element : (index n : ℕ) (steps : List Step) (path : List At) → LeadsBy steps path →
      LeadsBy (places.ToElement index ∷ steps) (Part n ∷ path)

same_number : (n m : ℕ) → (n == m) ≡ true → n ≡ m
same_number n m h = (Decides-eqb n m).0 h

fork : (i j : At) (p q : List At) → i ≢ j → AreApart (i ∷ p) (j ∷ q)
fork i j p q h = record {
  above = [];
  one_step = i;
  one_below = p;
  other_step = j;
  other_below = q;
  one_is =
      refl;
  other_is = refl;
  differ = h;
}

deeper : (i : At) (p q : List At) → AreApart p q → AreApart (i ∷ p) (i ∷ q)
deeper i p q a = record {
  above = i ∷ a.above;
  one_step = a.one_step;
  one_below = a.one_below;
  other_step = a.other_step;
  other_below = a.other_below;
  one_is = ap (λ l. i ∷ l) a.one_is;
  other_is = ap (λ l. i ∷ l) a.other_is;
  differ = a.differ;
}

parts_fork : (n m : ℕ) (p q : List At) (rest : Bool) → ((n == m) && rest) ≡ false → (rest ≡ false → AreApart p q) →
    AreApart (Part n ∷ p) (Part m ∷ q)
parts_fork n m p q rest h later = by (n == m) refl h
  where
    by : (b : Bool) → (n == m) ≡ b → (b && rest) ≡ false → AreApart (Part n ∷ p) (Part m ∷ q)
    by true e h = subst (λ k. AreApart (Part n ∷ p) (Part k ∷ q)) (same_number n m e) (deeper (Part n) p q (later h))
    by false e h = fork (Part n) (Part m) p q (λ same. false≢true (sym e ∙ (Decides-eqb n m).1 (part_same same)))
      where
        number_of_part : At → ℕ
        number_of_part (Part k) = k
        number_of_part Inside = 0

        part_same : Part n ≡ Part m → n ≡ m
        part_same same = ap number_of_part same

abbrev is_inside : At → Bool
is_inside (Part k) = false
is_inside Inside = true

-- steps that do not begin alike lead apart
pub lead_apart : {s t : List Step} {p q : List At} → LeadsBy s p → LeadsBy t q →
    begin_alike (seen s) (seen t) ≡ false →
    AreApart p q
lead_apart no_steps k h = absurd (false≢true (sym h))
lead_apart (by_element i n s p l) k h = absurd (false≢true (sym h))
lead_apart (by_part n s p l) no_steps h = absurd (false≢true (sym h))
lead_apart (by_part n s p l) (by_element i m t q k) h = absurd (false≢true (sym h))
lead_apart (by_part n s p l) (by_part m t q k) h = parts_fork n m p q (begin_alike (seen s) (seen t)) h
    (λ e. lead_apart l k e)
lead_apart (by_part n s p l) (by_field v m t q k) h = parts_fork n m p q (begin_alike (seen s) (seen t)) h
    (λ e. lead_apart l k e)
lead_apart (by_part n s p l) (by_content t q k) h = fork (Part n) Inside p q (λ same. false≢true (inside same))
  where
    inside : Part n ≡ Inside → false ≡ true
    inside same = ap is_inside same
lead_apart (by_field v n s p l) no_steps h = absurd (false≢true (sym h))
lead_apart (by_field v n s p l) (by_element i m t q k) h = absurd (false≢true (sym h))
lead_apart (by_field v n s p l) (by_part m t q k) h = parts_fork n m p q (begin_alike (seen s) (seen t)) h
    (λ e. lead_apart l k e)
lead_apart (by_field v n s p l) (by_field u m t q k) h = parts_fork n m p q (begin_alike (seen s) (seen t)) h
    (λ e. lead_apart l k e)
lead_apart (by_field v n s p l) (by_content t q k) h = fork (Part n) Inside p q (λ same. false≢true (inside same))
  where
    inside : Part n ≡ Inside → false ≡ true
    inside same = ap is_inside same
lead_apart (by_content s p l) no_steps h = absurd (false≢true (sym h))
lead_apart (by_content s p l) (by_element i m t q k) h = absurd (false≢true (sym h))
lead_apart (by_content s p l) (by_part m t q k) h = fork Inside (Part m) p q (λ same. false≢true (sym (inside same)))
  where
    inside : Inside ≡ Part m → true ≡ false
    inside same = ap is_inside same
lead_apart (by_content s p l) (by_field u m t q k) h =
    fork Inside (Part m) p q (λ same. false≢true (sym (inside same)))
  where
    inside : Inside ≡ Part m → true ≡ false
    inside same = ap is_inside same
lead_apart (by_content s p l) (by_content t q k) h = deeper Inside p q (lead_apart l k h)

-- ---- the place as the rule sees it

pub record Seen (a : AccessPlace) (p : Place) : Type 0 where
  pub key_is : a.key ≡ p.local
  pub steps_are : a.steps ≡ seen p.steps
  pub end_is : a.has_ended ≡ has_index p.steps

-- places that do not overlap lead apart, in one activation
pub no_overlap : (a b : AccessPlace) (p q : Place) (depth : ℕ) (path other : List At) → Seen a p → Seen b q →
    LeadsBy p.steps path → LeadsBy q.steps other → overlap a b ≡ false →
    Apart (record { depth = depth; key = (record { 0 = p.local }); path = path })
    (record { depth = depth; key = (record { 0 = q.local }); path = other })
no_overlap a b p q depth path other s t l k h = by (a.key == b.key) refl h
  where
    by : (c : Bool) → (a.key == b.key) ≡ c → (c && begin_alike a.steps b.steps) ≡ false →
        Apart (record { depth = depth; key = (record { 0 = p.local }); path = path })
        (record { depth = depth; key = (record { 0 = q.local }); path = other })
    by false e h = other_local _ _
        (λ same. false≢true (sym e ∙ (Decides-eqb a.key b.key).1 (s.key_is ∙ same ∙ sym t.key_is)))
    by true e h = other_part _ _
        (lead_apart l k (sym
        (ap (λ x. begin_alike x b.steps) s.steps_are ∙ ap (λ x. begin_alike (seen p.steps) x) t.steps_are) ∙ h))

-- one step more
abbrev seen_step : Step → AccessPlace → AccessPlace
seen_step (places.ToPart n) a = with_step (rules.ToPart n) a
seen_step (places.ToField variant n) a = with_step (rules.ToPart n) a
seen_step places.ToContent a = with_step rules.ToContent a
seen_step (places.ToElement index) a = with_end a

seen_append : (steps : List Step) (step : Step) (x : AccessStep) → seen (step ∷ []) ≡ x ∷ [] →
    seen (steps ++ step ∷ []) ≡ (if has_index steps then seen steps else seen steps ++ x ∷ [])
seen_append [] step x e = e
seen_append (places.ToPart n ∷ steps) step x e = ap (λ l. rules.ToPart n ∷ l) (seen_append steps step x e)
    ∙ by (has_index steps)
  where
    by : (b : Bool) → rules.ToPart n ∷ (if b then seen steps else seen steps ++ x ∷ [])
        ≡ (if b then rules.ToPart n ∷ seen steps else (rules.ToPart n ∷ seen steps) ++ x ∷ [])
    by true = refl
    by false = refl
seen_append (places.ToField v n ∷ steps) step x e = ap (λ l. rules.ToPart n ∷ l) (seen_append steps step x e)
    ∙ by (has_index steps)
  where
    by : (b : Bool) → rules.ToPart n ∷ (if b then seen steps else seen steps ++ x ∷ [])
        ≡ (if b then rules.ToPart n ∷ seen steps else (rules.ToPart n ∷ seen steps) ++ x ∷ [])
    by true = refl
    by false = refl
seen_append (places.ToContent ∷ steps) step x e = ap (λ l. rules.ToContent ∷ l) (seen_append steps step x e)
    ∙ by (has_index steps)
  where
    by : (b : Bool) → rules.ToContent ∷ (if b then seen steps else seen steps ++ x ∷ [])
        ≡ (if b then rules.ToContent ∷ seen steps else (rules.ToContent ∷ seen steps) ++ x ∷ [])
    by true = refl
    by false = refl
seen_append (places.ToElement i ∷ steps) step x e = refl

index_append : (steps : List Step) (step : Step) → has_index (step ∷ []) ≡ false →
    has_index (steps ++ step ∷ []) ≡ has_index steps
index_append [] step e = e
index_append (places.ToPart n ∷ steps) step e = index_append steps step e
index_append (places.ToField v n ∷ steps) step e = index_append steps step e
index_append (places.ToContent ∷ steps) step e = index_append steps step e
index_append (places.ToElement i ∷ steps) step e = refl

element_append : (steps : List Step) (i : ℕ) → seen (steps ++ places.ToElement i ∷ []) ≡ seen steps
element_append [] i = refl
element_append (places.ToPart n ∷ steps) i = ap (λ l. rules.ToPart n ∷ l) (element_append steps i)
element_append (places.ToField v n ∷ steps) i = ap (λ l. rules.ToPart n ∷ l) (element_append steps i)
element_append (places.ToContent ∷ steps) i = ap (λ l. rules.ToContent ∷ l) (element_append steps i)
element_append (places.ToElement j ∷ steps) i = refl

element_ends : (steps : List Step) (i : ℕ) → has_index (steps ++ places.ToElement i ∷ []) ≡ true
element_ends [] i = refl
element_ends (places.ToPart n ∷ steps) i = element_ends steps i
element_ends (places.ToField v n ∷ steps) i = element_ends steps i
element_ends (places.ToContent ∷ steps) i = element_ends steps i
element_ends (places.ToElement j ∷ steps) i = refl

pub plain_step : (step : Step) (x : AccessStep) → seen (step ∷ []) ≡ x ∷ [] → has_index (step ∷ []) ≡ false →
    (a : AccessPlace) (p : Place) → Seen a p → Seen (with_step x a) (extended step p)
plain_step step x e f a p s = by a.has_ended refl
  where
    by : (b : Bool) → a.has_ended ≡ b → Seen (if b then a else record a { steps = a.steps ++ x ∷ [] })
        (extended step p)
    by true k = record {
      key_is = s.key_is;
      steps_are = s.steps_are
          ∙ sym (seen_append p.steps step x e ∙ ap (λ b. if b then seen p.steps else seen p.steps ++ x ∷ [])
          (sym s.end_is ∙ k));
      end_is = s.end_is ∙ sym (index_append p.steps step f);
    }
    by false k = record {
      key_is = s.key_is;
      steps_are = ap (λ l. l ++ x ∷ []) s.steps_are
          ∙ sym (seen_append p.steps step x e ∙ ap (λ b. if b then seen p.steps else seen p.steps ++ x ∷ [])
          (sym s.end_is ∙ k));
      end_is = s.end_is ∙ sym (index_append p.steps step f);
    }

element_step : (i : ℕ) (a : AccessPlace) (p : Place) → Seen a p → Seen (with_end a) (extended (places.ToElement i) p)
element_step i a p s = record {
  key_is = s.key_is;
  steps_are = s.steps_are ∙ sym (element_append p.steps i);
  end_is =
      sym (element_ends p.steps i);
}

-- as the rule sees it, where it sees a place at all
pub data SeenIf : Option AccessPlace → Place → Type 0 where
  not_seen : (p : Place) → SeenIf None p
  is_seen : (a : AccessPlace) (p : Place) → Seen a p → SeenIf (Some a) p

pub mapped : (f : AccessPlace → AccessPlace) (step : Step) →
    ((a : AccessPlace) (p : Place) → Seen a p → Seen (f a) (extended step p)) →
    (o : Option AccessPlace) (p : Place) →
    SeenIf o p → SeenIf (option_map f o) (extended step p)
mapped f step h None p (not_seen _) = not_seen (extended step p)
mapped f step h (Some a) p (is_seen _ _ s) = is_seen (f a) (extended step p) (h a p s)

module _ (items : ItemTable) (seen_by : rules.Aliases) (aliases : shapes.Aliases)
    (alike : (key : ℕ) → SeenIf (rules.place_of_key seen_by key) (shapes.place_of_key key aliases)) where
  mutual
    -- the place of a node
    pub node_seen : (n : Node) → SeenIf (place_of seen_by n) ((shape items n).place aliases)
    node_seen (node id at ty by form) = form_seen form id ty by

    form_seen : (form : Form) (id : ℕ) (ty : TyId) (by : Option Use) → SeenIf (place_of_form seen_by form)
        ((shape_of items form (head id ty by)).place aliases)
    form_seen (tree.Variable key) id ty by = alike key
    form_seen (tree.Captured closure part name) id ty by =
        mapped (with_step (rules.ToPart part)) (places.ToPart part)
        (plain_step (places.ToPart part) (rules.ToPart part) refl refl) (rules.place_of_key seen_by closure)
        (shapes.place_of_key closure aliases) (alike closure)
    form_seen (tree.Field base part) id ty by =
        mapped (with_step (rules.ToPart part)) (places.ToPart part)
        (plain_step (places.ToPart part) (rules.ToPart part) refl refl) (place_of seen_by base)
        ((shape items base).place aliases) (node_seen base)
    form_seen (tree.Index base index count) id ty by =
        mapped with_end (places.ToElement (number_of index)) (element_step (number_of index)) (place_of seen_by base)
        ((shape items base).place aliases) (node_seen base)
    form_seen (tree.Deref base) id ty by =
        mapped (with_step rules.ToContent) places.ToContent (plain_step places.ToContent rules.ToContent refl refl)
        (place_of seen_by base) ((shape items base).place aliases) (node_seen base)
    form_seen other id ty by = not_seen (whole_local id)
