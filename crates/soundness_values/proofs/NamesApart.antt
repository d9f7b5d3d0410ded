-- Places that two references name are apart, where the places do not overlap and one of the references is `&mut`.
use Rattle.std.proofs.Common.{◌≡◌, ◌≢◌, ℕ, ◌==◌, ◌&&◌, ◌||◌, not, Bool, true, false, List, [], ◌∷◌, ◌++◌, length, Option, Some, None, is_some, refl, ap, sym, ◌∙◌, subst, append_assoc}
use Rattle.std.specs.Prelude.{slice_get, option_and_then}
use Rattle.std.proofs.lemmas.Bool.{false≢true}
use Rattle.std.proofs.lemmas.Bool.Decides.{Decides-eqb}
use Rattle.mir_ty.specs.declared.ty.Ty.{Ty}
use Rattle.mir_ty.specs.declared.ty.TyId.{TyId}
use Rattle.mir_ty.specs.ItemTable.{ItemTable, type_at}
use Rattle.store_model.specs.declared.address.Addr.{Addr}
use Rattle.store_model.specs.declared.address.At.{At}
use Rattle.store_model.specs.declared.address.At.TheVariants.{Part, Inside}
use Rattle.store_model.specs.Values.Datum.{Datum, Address}
use Rattle.store_model.specs.Values.Access.{AreApart}
use Rattle.store_model.specs.Abstract.Presence.{Presence}
use Rattle.store_model.specs.Places.Place.{Step, ToPart, ToField, ToContent, ToElement, Place}
use Rattle.store_model.specs.Concrete.Location.{Setting}
use Rattle.store_model.specs.Concrete.State.{State, Cells, cell}
use Rattle.soundness_values.specs.Frames.{Apart, other_depth, other_local, other_part}
use Rattle.soundness_values.proofs.Facts.{Naming, Facts}
use Rattle.soundness_values.proofs.Frames.{apart_below}
use Rattle.soundness_values.proofs.Known.{Target}
use Rattle.soundness_values.proofs.Along.{number_in, path_at}
use Rattle.soundness_values.proofs.Running.{Passed, own_place}
use Rattle.soundness_values.proofs.Checks.{is_unique, may_change, meet, overlap}
use Rattle.soundness_values.proofs.Storing.{names_unique}
use Rattle.soundness_values.proofs.Passing.{NamesAt, own_names, behind_names}

-- ---- paths

abbrev is_inside : At → Bool
is_inside (Part k) = false
is_inside Inside = true

abbrev number_of : At → ℕ
number_of (Part k) = k
number_of Inside = 0

head_apart : (i j : At) (p q : List At) → i ≢ j → AreApart (i ∷ p) (j ∷ q)
head_apart i j p q h = record {
  above = [];
  one_step = i;
  one_below = p;
  other_step = j;
  other_below = q;
  one_is = refl;
  other_is = refl;
  differ = h;
}

below_apart : (i : At) (p q : List At) → AreApart p q → AreApart (i ∷ p) (i ∷ q)
below_apart i p q a = record {
  above = i ∷ a.above;
  one_step = a.one_step;
  one_below = a.one_below;
  other_step = a.other_step;
  other_below = a.other_below;
  one_is = ap (λ l. i ∷ l) a.one_is;
  other_is = ap (λ l. i ∷ l) a.other_is;
  differ = a.differ;
}

prefix_apart : (r p q : List At) → AreApart p q → AreApart (r ++ p) (r ++ q)
prefix_apart [] p q a = a
prefix_apart (i ∷ r) p q a = below_apart i (r ++ p) (r ++ q) (prefix_apart r p q a)

back_apart : (p q : List At) → AreApart p q → AreApart q p
back_apart p q a = record {
  above = a.above;
  one_step = a.other_step;
  one_below = a.other_below;
  other_step = a.one_step;
  other_below = a.one_below;
  one_is = a.other_is;
  other_is = a.one_is;
  differ = λ e. a.differ (sym e);
}

pub apart_back : (a b : Addr) → Apart a b → Apart b a
apart_back a b (other_depth _ _ h) = other_depth b a (λ e. h (sym e))
apart_back a b (other_local _ _ h) = other_local b a (λ e. h (sym e))
apart_back a b (other_part _ _ h) = other_part b a (back_apart a.path b.path h)

module _ (held : Cells) where
  numbers_apart : (n m : ℕ) (rest : Bool) (p q : List At) → (n == m && rest) ≡ false →
      (rest ≡ false → AreApart p q) → AreApart (Part n ∷ p) (Part m ∷ q)
  numbers_apart n m rest p q h later = by (n == m) refl h
    where
      by : (b : Bool) → (n == m) ≡ b → (b && rest) ≡ false → AreApart (Part n ∷ p) (Part m ∷ q)
      by true e k = subst (λ x. AreApart (Part n ∷ p) (Part x ∷ q)) ((Decides-eqb n m).0 e)
          (below_apart (Part n) p q (later k))
      by false e k = head_apart (Part n) (Part m) p q
          (λ same. false≢true (sym e ∙ (Decides-eqb n m).1 (ap number_of same)))

  part_content : (n : ℕ) (p q : List At) → AreApart (Part n ∷ p) (Inside ∷ q)
  part_content n p q = head_apart (Part n) Inside p q (λ same. false≢true (ap is_inside same))

  content_part : (n : ℕ) (p q : List At) → AreApart (Inside ∷ p) (Part n ∷ q)
  content_part n p q = head_apart Inside (Part n) p q (λ same. false≢true (sym (ap is_inside same)))

  -- steps that do not meet lead apart
  pub steps_apart : (a b : List Step) → meet a b ≡ false → AreApart (path_at held a) (path_at held b)
  steps_apart [] b h = absurd (false≢true (sym h))
  steps_apart (ToPart n ∷ a) [] h = absurd (false≢true (sym h))
  steps_apart (ToField u n ∷ a) [] h = absurd (false≢true (sym h))
  steps_apart (ToContent ∷ a) [] h = absurd (false≢true (sym h))
  steps_apart (ToElement i ∷ a) [] h = absurd (false≢true (sym h))
  steps_apart (ToElement i ∷ a) (s ∷ b) h = absurd (false≢true (sym h))
  steps_apart (ToPart n ∷ a) (ToElement i ∷ b) h = absurd (false≢true (sym h))
  steps_apart (ToField u n ∷ a) (ToElement i ∷ b) h = absurd (false≢true (sym h))
  steps_apart (ToContent ∷ a) (ToElement i ∷ b) h = absurd (false≢true (sym h))
  steps_apart (ToPart n ∷ a) (ToPart m ∷ b) h = numbers_apart n m (meet a b) _ _ h (steps_apart a b)
  steps_apart (ToPart n ∷ a) (ToField v m ∷ b) h = numbers_apart n m (meet a b) _ _ h (steps_apart a b)
  steps_apart (ToField u n ∷ a) (ToPart m ∷ b) h = numbers_apart n m (meet a b) _ _ h (steps_apart a b)
  steps_apart (ToField u n ∷ a) (ToField v m ∷ b) h = numbers_apart n m (meet a b) _ _ h (steps_apart a b)
  steps_apart (ToPart n ∷ a) (ToContent ∷ b) h = part_content n (path_at held a) (path_at held b)
  steps_apart (ToField u n ∷ a) (ToContent ∷ b) h = part_content n (path_at held a) (path_at held b)
  steps_apart (ToContent ∷ a) (ToPart m ∷ b) h = content_part m (path_at held a) (path_at held b)
  steps_apart (ToContent ∷ a) (ToField v m ∷ b) h = content_part m (path_at held a) (path_at held b)
  steps_apart (ToContent ∷ a) (ToContent ∷ b) h = below_apart Inside (path_at held a) (path_at held b)
      (steps_apart a b h)

module _ (setting : Setting) (number : ℕ) (targets : List Target) (uniques : List Addr) (base : State)
    (is_target : ℕ → Bool) (passed : Passed setting number targets uniques base is_target) where
  abbrev items : ItemTable
  items = setting.items

  abbrev local_ty : ℕ → Option TyId
  local_ty key = setting.local_ty number key

  abbrev Names : ℕ → Cells → Place → Datum → Type 0
  Names = NamesAt setting number targets uniques base is_target passed

  some_target : {a b : Target} → Some a ≡ Some b → a ≡ b
  some_target x = cc

  -- a target that may be changed is `&mut`
  changes_unique : (place : Place) (n : ℕ) (t : Target) → slice_get targets n ≡ Some t → t.local ≡ place.local →
      may_change items local_ty is_target place ≡ true → t.unique ≡ true
  changes_unique place n t at same h =
      let ty = passed.typed n t at in
      names_unique setting number targets uniques base is_target passed t ty.0 ty.1.1
      (subst (λ o. is_unique items local_ty is_target o ≡ true) (ap local_ty (sym same) ∙ ty.1.0)
      (or_second (is_target place.local) _ h (subst (λ x. is_target x ≡ true) same (passed.is_param n t at))))
    where
      or_second : (a b : Bool) → (not a || b) ≡ true → a ≡ true → b ≡ true
      or_second true b h k = h
      or_second false b h k = absurd (false≢true k)

  module _ (depth : ℕ) (held : Cells) (is_older : (n : ℕ) (t : Target) → slice_get targets n ≡ Some t →
      t.address.depth ≢ depth) where
    -- one of two places that do not overlap may be changed
    pub names_apart : (a b : Place) (x y : Addr) → overlap a b ≡ false →
        may_change items local_ty is_target a ≡ true → Names depth held a (Address x) → Names depth held b (Address y) →
        Apart x y
    names_apart a b x y h c (own_names o e) (own_names p k) = by (a.local == b.local) refl h
      where
        address_is : {u v : Addr} → Address u ≡ Address v → u ≡ v
        address_is z = cc

        x_is : x ≡ own_place setting number targets uniques base is_target depth a.local (path_at held a.steps)
        x_is = address_is e

        y_is : y ≡ own_place setting number targets uniques base is_target depth b.local (path_at held b.steps)
        y_is = address_is k

        by : (t : Bool) → (a.local == b.local) ≡ t → (t && meet a.steps b.steps) ≡ false → Apart x y
        by true s z = subst (λ u. Apart u y) (sym x_is) (subst (λ v. Apart
            (own_place setting number targets uniques base is_target depth a.local (path_at held a.steps)) v) (sym y_is)
            (other_part _ _ (steps_apart held a.steps b.steps z)))
        by false s z = subst (λ u. Apart u y) (sym x_is) (subst (λ v. Apart
            (own_place setting number targets uniques base is_target depth a.local (path_at held a.steps)) v) (sym y_is)
            (other_local _ _ (λ same. false≢true (sym s ∙ (Decides-eqb a.local b.local).1 same))))
    names_apart a b x y h c (own_names o e) (behind_names n t at same steps is k) =
        other_depth x y (λ z. is_older n t at (sym (ap (λ (u : Addr). u.depth) (address_is k)) ∙ sym z
        ∙ ap (λ (u : Addr). u.depth) (address_is e)))
      where
        address_is : {u v : Addr} → Address u ≡ Address v → u ≡ v
        address_is z = cc
    names_apart a b x y h c (behind_names n t at same steps is e) (own_names o k) =
        other_depth x y (λ z. is_older n t at (sym (ap (λ (u : Addr). u.depth) (address_is e)) ∙ z
        ∙ ap (λ (u : Addr). u.depth) (address_is k)))
      where
        address_is : {u v : Addr} → Address u ≡ Address v → u ≡ v
        address_is z = cc
    names_apart a b x y h c (behind_names n t at same steps is e) (behind_names m u u_at u_same rest u_is k) =
        by (m == n) refl
      where
        address_is : {u v : Addr} → Address u ≡ Address v → u ≡ v
        address_is z = cc

        there_x : Addr
        there_x = record t.address { path = t.address.path ++ path_at held steps }

        there_y : Addr
        there_y = record u.address { path = u.address.path ++ path_at held rest }

        one_local : t.local ≡ u.local → meet steps rest ≡ false
        one_local l =
            sym (ap (λ s. meet s b.steps) is ∙ ap (λ s. meet (ToContent ∷ steps) s) u_is)
            ∙ both (a.local == b.local) (meet a.steps b.steps) h
            ((Decides-eqb a.local b.local).1 (sym same ∙ l ∙ u_same))
          where
            both : (p q : Bool) → (p && q) ≡ false → p ≡ true → q ≡ false
            both true q h k = h
            both false q h k = absurd (false≢true k)

        by : (z : Bool) → (m == n) ≡ z → Apart x y
        by true z =
            let one : u ≡ t = some_target (sym u_at ∙ ap (slice_get targets) ((Decides-eqb m n).0 z) ∙ at) in
            let y_is : y ≡ record t.address { path = t.address.path ++ path_at held rest } =
            address_is k ∙ ap (λ (v : Target). record v.address { path = v.address.path ++ path_at held rest }) one in
            subst (λ v. Apart v y) (sym (address_is e)) (subst (λ v. Apart
            (record t.address { path = t.address.path ++ path_at held steps }) v) (sym y_is)
            (other_part _ _ (prefix_apart t.address.path (path_at held steps) (path_at held rest)
            (steps_apart held steps rest (one_local (ap (λ (v : Target). v.local) (sym one)))))))
        by false z =
            let apart = passed.alone n m t u at u_at z (changes_unique a n t at same c) in
            subst (λ v. Apart v y) (sym (address_is e)) (subst (λ v. Apart
            (record t.address { path = t.address.path ++ path_at held steps }) v) (sym (address_is k))
            (apart_below setting (record t.address { path = t.address.path ++ path_at held steps }) u.address
            (path_at held rest) (apart_back u.address (record t.address { path = t.address.path ++ path_at held steps })
            (apart_below setting u.address t.address (path_at held steps) apart))))
