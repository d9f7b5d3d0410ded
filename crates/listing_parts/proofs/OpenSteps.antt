-- Each step of a reader of types keeps what is found in the end.
use Rattle.std.proofs.Common.{◌≡◌, ℕ, ◌≤◌, List, [], ◌∷◌, ◌++◌, length, Some, None, ap, sym, subst, ◌∙◌, arith}
use Rattle.std.specs.Prelude.{Result, Ok, Err, IfOk, IfErr}
use Rattle.std.specs.Borrow.{Bor}
use Rattle.std.proofs.lemmas.Option.{none-some, same_Some}
use Rattle.mir_ty.specs.ItemTable.{ItemTable}
use Rattle.mir_ty.specs.declared.ty.TyId.{TyId}
use Rattle.listing_write.specs.Reading.Words.{FoundInText, bind}
use Rattle.listing_parts.specs.OpenTypes.{AreOpen, BeginsAt, Ends, IsOpen, Steps, end_of_open, goes_on}
use Rattle.listing_parts.specs.Table.{AreRead, Grow, text_under}
use Rattle.listing_parts.specs.TypeReading.{type_read}
use Rattle.listing_parts.specs.TypesRead.{FindsType}
use Rattle.listing_parts.specs.declared.error.ReadError.{ReadError}
use Rattle.listing_parts.specs.declared.types.Ended.{Ended}
use Rattle.listing_parts.specs.declared.types.Open.{Open}
use Rattle.listing_parts.specs.declared.types.Step.{Step}
use Rattle.listing_parts.proofs.FoundRows.{then_grow}
use Rattle.listing_parts.proofs.OpenTypes.{are_open_less, are_open_more, are_open_still, goes_on_grown, nothing_goes_on, one_more_open}
use Rattle.listing_parts.proofs.Texts.{same_types}

not_refused : {X : Type 0} (x : X) (e : ReadError) (A : Type 0) → ◌≡◌ {A = Result X ReadError} (Ok x) (Err e) → A
not_refused x e A h = absurd (cc)

not_unreadable : {X : Type 0} (A : Type 0) → ◌≡◌ {A = Result X ReadError} (Err ReadError.NoMemory) (Err ReadError.Unreadable) → A
not_unreadable A h = absurd (cc)

-- a type that was given a number
pub whole_steps : (heads old new : ItemTable) (opens : List Open) (w r : List ℕ) (limit : ℕ) (found : FoundInText (List ℕ)) (id : TyId) (rest : Bor (List ℕ)) →
    AreRead heads old.types → AreOpen old.types opens → found ≡ Some (w, r) → length r ≤ limit → FindsType heads old new (Ok (id, rest)) (Some (w, r)) →
    Steps heads old new opens (Ok (Step.Whole id rest)) (goes_on heads old opens found) limit
whole_steps heads old new opens w r limit found id rest read all is short f = record {
  there = sym (goes_on_grown heads old new read f.grow opens found all) ∙ ap (goes_on heads new opens) (is ∙ f.there);
  within = f.within;
  shorter = let e = ap length (ap (λ (q : List ℕ × List ℕ). q.1) (same_Some (w, r) (text_under heads new id, rest.now) f.there)) in omega (arith, e, short);
  missing = λ h. not_refused (Step.Whole id rest) ReadError.Unreadable _ h;
  all_open = are_open_still heads old new read f.grow opens all;
  grow = f.grow;
}

pub refused_steps : (heads old new : ItemTable) (opens : List Open) (w r : List ℕ) (limit : ℕ) (found : FoundInText (List ℕ)) (error : ReadError) →
    AreRead heads old.types → AreOpen old.types opens → FindsType heads old new (Err error) (Some (w, r)) →
    Steps heads old new opens (Err error) found limit
refused_steps heads old new opens w r limit found error read all f = record {
  there = tt;
  within = tt;
  shorter = tt;
  missing = λ h. absurd (none-some (w, r) (sym (f.missing (ap again h))));
  all_open = are_open_still heads old new read f.grow opens all;
  grow = f.grow;
}
  where
    again : Result Step ReadError → Result (TyId × Bor (List ℕ)) ReadError
    again (Ok step) = Err ReadError.NoMemory
    again (Err error) = Err error

-- one more is open
pub opened_steps : (heads items : ItemTable) (before after : List Open) (one : Open) (t : List ℕ) (limit : ℕ) (found : FoundInText (List ℕ)) (result : Result Step ReadError) →
    AreRead heads items.types → AreOpen items.types before → IsOpen items.types one → found ≡ bind (type_read heads t) (end_of_open heads items one) → length t ≤ limit →
    IfOk result (λ step. BeginsAt t step × (after ≡ before ++ one ∷ [])) → IfErr result (λ error. (error ≡ ReadError.NoMemory) × (after ≡ before)) →
    Steps heads items items after result (goes_on heads items before found) limit
opened_steps heads items before after one t limit found (Ok (Step.Whole id rest)) read all single is short opened refused = absurd opened.0
opened_steps heads items before after one t limit found (Ok (Step.Next rest)) read all single is short opened refused = record {
  there =
      ap (goes_on heads items before) is ∙ sym (one_more_open heads items before one (type_read heads t))
      ∙ (λ i. goes_on heads items (sym opened.1 i) (type_read heads (sym opened.0 i)));
  within = tt;
  shorter = let e = ap length opened.0 in omega (arith, e, short);
  missing = λ h. not_refused (Step.Next rest) ReadError.Unreadable _ h;
  all_open = subst (AreOpen items.types) (sym opened.1) (are_open_more heads items.types before one all single);
  grow = record { types = read; others = same_types items };
}
opened_steps heads items before after one t limit found (Err error) read all single is short opened refused = record {
  there = tt;
  within = tt;
  shorter = tt;
  missing = λ h. not_unreadable {X = Step} _ (ap (λ (e : ReadError). Err e) (sym refused.0) ∙ h);
  all_open = subst (AreOpen items.types) (sym refused.1) all;
  grow = record { types = read; others = same_types items };
}

-- ---- the end of a type
module _ (heads old new : ItemTable) (opens less : List Open) (outer : Open) (w r : List ℕ) (read : AreRead heads old.types) (all : AreOpen old.types opens) (popped : opens ≡ less ++ outer ∷ []) where
  pub outer_is_open : IsOpen old.types outer
  outer_is_open = (are_open_less heads old.types less outer (subst (AreOpen old.types) popped all)).1

  less_are_open : AreOpen old.types less
  less_are_open = (are_open_less heads old.types less outer (subst (AreOpen old.types) popped all)).0

  goes_into : goes_on heads old opens (Some (w, r)) ≡ goes_on heads old less (end_of_open heads old outer (w, r))
  goes_into = ap (λ (os : List Open). goes_on heads old os (Some (w, r))) popped ∙ one_more_open heads old less outer (Some (w, r))

  -- it ends there
  pub ended_there : (limit : ℕ) (id : TyId) (rest : Bor (List ℕ)) → Ends heads old new (Ok (Ended.Whole id rest)) (end_of_open heads old outer (w, r)) limit →
      (goes_on heads old opens (Some (w, r)) ≡ goes_on heads new less (Some (text_under heads new id, rest.now))) × AreOpen new.types less
  ended_there limit id rest e = (
    goes_into ∙ sym (goes_on_grown heads old new read e.grow less _ less_are_open) ∙ ap (goes_on heads new less) e.there,
    are_open_still heads old new read e.grow less less_are_open,
  )

  -- it goes on
  pub goes_on_there : (limit : ℕ) (after : List Open) (inner : Open) (rest : Bor (List ℕ)) (result : Result Step ReadError) →
      Ends heads old new (Ok (Ended.More inner rest)) (end_of_open heads old outer (w, r)) limit →
      IfOk result (λ step. BeginsAt rest.now step × (after ≡ less ++ inner ∷ [])) → IfErr result (λ error. (error ≡ ReadError.NoMemory) × (after ≡ less)) →
      Steps heads new new after result (goes_on heads old opens (Some (w, r))) limit
  goes_on_there limit after inner rest result e opened refused =
      subst (λ (found : FoundInText (List ℕ)). Steps heads new new after result found limit)
      (goes_on_grown heads old new read e.grow less _ less_are_open ∙ sym goes_into)
      (opened_steps heads new less after inner rest.now limit _ result e.grow.types (are_open_still heads old new read e.grow less less_are_open) e.within e.there e.shorter opened refused)

  pub fails_there : (limit : ℕ) (error : ReadError) → Ends heads old new (Err error) (end_of_open heads old outer (w, r)) limit →
      Steps heads old new less (Err error) (goes_on heads old opens (Some (w, r))) limit
  fails_there limit error e = record {
    there = tt;
    within = tt;
    shorter = tt;
    missing = λ h. goes_into ∙ ap (goes_on heads old less) (e.missing (ap again h)) ∙ nothing_goes_on heads old less;
    all_open = are_open_still heads old new read e.grow less less_are_open;
    grow = e.grow;
  }
    where
      again : Result Step ReadError → Result Ended ReadError
      again (Ok step) = Err ReadError.NoMemory
      again (Err error) = Err error

-- steps after earlier ones
pub then_steps : (heads a b c : ItemTable) (opens : List Open) (result : Result Step ReadError) (first found : FoundInText (List ℕ)) (less limit : ℕ) →
    first ≡ found → less ≤ limit → Grow heads a b → Steps heads b c opens result found less → Steps heads a c opens result first limit
then_steps heads a b c opens (Ok step) first found less limit same short grow s = record {
  there = same ∙ s.there;
  within = s.within;
  shorter = let l = s.shorter in omega (arith, l, short);
  missing = λ h. not_refused step ReadError.Unreadable _ h;
  all_open = s.all_open;
  grow = then_grow heads a b c grow s.grow;
}
then_steps heads a b c opens (Err error) first found less limit same short grow s = record {
  there = tt;
  within = tt;
  shorter = tt;
  missing = λ h. same ∙ s.missing h;
  all_open = s.all_open;
  grow = then_grow heads a b c grow s.grow;
}

-- where no type begins nothing is found
pub no_step : (heads items : ItemTable) (opens : List Open) (found : FoundInText (List ℕ)) (limit : ℕ) → AreRead heads items.types → AreOpen items.types opens → found ≡ None →
    Steps heads items items opens (Err ReadError.Unreadable) (goes_on heads items opens found) limit
no_step heads items opens found limit read all none = record {
  there = tt;
  within = tt;
  shorter = tt;
  missing = λ h. ap (goes_on heads items opens) none ∙ nothing_goes_on heads items opens;
  all_open = all;
  grow = record { types = read; others = same_types items };
}
