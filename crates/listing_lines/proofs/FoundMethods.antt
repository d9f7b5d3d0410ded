-- Methods that are read into a table.
use Rattle.std.proofs.Common.{◌≡◌, ℕ, zero, suc, ◌<◌, List, [], ◌∷◌, ◌++◌, All, map, length, codes, Option, Some, None, slice_get, refl, ap, sym, subst, ◌∙◌, arith, append_assoc, append-nil}
use Rattle.std.specs.Prelude.{Bool, true, false, Result, Ok, Err}
use Rattle.std.specs.Result.{IsErr}
use Rattle.std.specs.Borrow.{Bor}
use Rattle.std.proofs.lemmas.Bool.{false≢true}
use Rattle.cfg_graph.specs.WellFormed.NameFaults.{same_name}
use Rattle.mir_ty.specs.declared.def.TraitDef.{TraitDef}
use Rattle.listing_write.specs.Types.{trait_name, name_of_trait}
use Rattle.std.proofs.lemmas.List.Elements.{All-append, All-cons, All-nil}
use Rattle.std.proofs.lemmas.Option.{slice_get_within}
use Rattle.mir_base.specs.declared.memory.NoMemory.{NoMemory}
use Rattle.mir_ty.specs.declared.def.Sig.{Sig}
use Rattle.mir_ty.specs.declared.ty.Ty.{Ty}
use Rattle.mir_ty.specs.declared.ty.TyId.{TyId}
use Rattle.mir_ty.specs.AreItems.{AreTypes, IsMethod, IsSelfTy}
use Rattle.mir_ty.specs.ItemTable.{ItemTable, type_at}
use Rattle.listing_write.specs.Compared.{SigSeen, sig_seen}
use Rattle.listing_write.specs.Reading.Rows.{many, many_within, comma}
use Rattle.listing_write.specs.Reading.Words.{FoundInText}
use Rattle.listing_write.proofs.Reading.Basics.{Every}
use Rattle.listing_parts.specs.Table.{AreRead, Grow, WithTypes, under, text_under}
use Rattle.listing_parts.proofs.FoundRows.{map-append, then_grow, still_types}
use Rattle.listing_parts.proofs.Texts.{every_from_all, text_grown, texts_grown, no_less, still_there}
use Rattle.listing_parts.specs.TypesRead.{GivesType}
use Rattle.listing_parts.proofs.Splits.{same_is}
use Rattle.listing_lines.specs.TraitReading.{sig_of, reference_to}
use Rattle.listing_lines.specs.TraitsRead.{BeginWithSelf, GivesSelf, FindsParams, FindsMethod, FindsMore}

-- the type of `self` stays
pub self_stays : (old new : ItemTable) → WithTypes old new → (n : ℕ) (id : TyId) → IsSelfTy old.types n (slice_get old.types id.0) → IsSelfTy new.types n (slice_get new.types id.0)
self_stays old new others n id h = by (slice_get old.types id.0) refl h
  where
    moved : (k : ℕ) (ty : Ty) → slice_get old.types k ≡ Some ty → slice_get new.types k ≡ Some ty
    moved k ty is = still_there old new others (record { 0 = k }) (slice_get_within old.types k ty is) ∙ is

    by : (o : Option Ty) → slice_get old.types id.0 ≡ o → IsSelfTy old.types n o → IsSelfTy new.types n (slice_get new.types id.0)
    by None e h = absurd h
    by (Some (Ty.Shared to)) e h = subst (IsSelfTy new.types n) (sym (moved id.0 (Ty.Shared to) e)) (moved to.0 (Ty.Dyn n) h)
    by (Some (Ty.Unique to)) e h = subst (IsSelfTy new.types n) (sym (moved id.0 (Ty.Unique to) e)) (moved to.0 (Ty.Dyn n) h)
    by (Some _) e h = absurd h

pub begin_stays : (old new : ItemTable) → WithTypes old new → (n : ℕ) (params : List TyId) → BeginWithSelf old n params → BeginWithSelf new n params
begin_stays old new others n [] h = absurd h
begin_stays old new others n (id ∷ ids) h = self_stays old new others n id h

pub method_found : (heads old new : ItemTable) (n : ℕ) (sig : Sig) (rest : Bor (List ℕ)) (name : List ℕ) (params : List TyId) (answer : TyId) (found : FoundInText SigSeen) → AreRead heads old.types
    → AreTypes old.types params → BeginWithSelf old n params → Grow heads old new → answer.0 < length new.types → sig ≡ sig_of name params answer
    → found ≡ Some ((name, map (text_under heads old) params, text_under heads new answer), rest.now) → FindsMethod heads old new n (Ok (sig, rest)) found
method_found heads old new n sig rest name params answer found read within own grow there made is =
    let types = texts_grown heads old new read grow.others params (every_from_all (λ (id : TyId). id.0 < length old.types) params within) in
    record {
      there =
          is ∙ (λ i. let one : FoundInText SigSeen = Some ((name, sym types i, text_under heads new answer), rest.now) in one)
          ∙ ap (λ (s : Sig). let one : FoundInText SigSeen = Some (sig_seen (under heads new) s, rest.now) in one) (sym made);
      within =
          subst (IsMethod new.types n) (sym made)
          (record { head = record { params = still_types heads old new params grow within; answer = there }; receiver = begin_stays old new grow.others n params own });
      missing = λ e. absurd (cc e);
      grow = grow;
    }

-- the type of `self`, given its number
pub self_given : (heads old mid new : ItemTable) (n : ℕ) (unique : Bool) (to : TyId) (result : Result TyId NoMemory) → Grow heads old mid → type_at mid to ≡ Some (Ty.Dyn n)
    → text_under heads mid to ≡ codes "dyn " ++ trait_name heads n → GivesType heads mid new result (reference_to unique to) → GivesSelf heads old new n unique result
self_given heads old mid new n unique to (Err e) grow inner text given = record { there = tt; within = tt; own = tt; grow = then_grow heads old mid new grow given.grow }
self_given heads old mid new n false to (Ok id) grow inner text given = record {
  there = given.there ∙ ap (λ (w : List ℕ). codes "&" ++ w) text;
  within = given.within;
  own = subst (IsSelfTy new.types n) (sym given.is) (still_there mid new given.grow.others to (slice_get_within mid.types to.0 (Ty.Dyn n) inner) ∙ inner);
  grow = then_grow heads old mid new grow given.grow;
}
self_given heads old mid new n true to (Ok id) grow inner text given = record {
  there = given.there ∙ ap (λ (w : List ℕ). codes "&mut " ++ w) text;
  within = given.within;
  own = subst (IsSelfTy new.types n) (sym given.is) (still_there mid new given.grow.others to (slice_get_within mid.types to.0 (Ty.Dyn n) inner) ∙ inner);
  grow = then_grow heads old mid new grow given.grow;
}

-- parameters behind that of `self`
pub params_found : (heads old new : ItemTable) (n : ℕ) (first : TyId) (others params : List TyId) (words : List (List ℕ)) (rest : Bor (List ℕ)) (found : FoundInText (List (List ℕ))) → AreRead heads old.types
    → first.0 < length old.types → IsSelfTy old.types n (slice_get old.types first.0) → Grow heads old new → AreTypes new.types others → map (text_under heads new) others ≡ words
    → params ≡ first ∷ others → found ≡ Some (text_under heads old first ∷ words, rest.now) → FindsParams heads old new n (Ok (params, rest)) found
params_found heads old new n first others params words rest found read within own grow all same made is =
    let text = text_grown heads old new read grow.others first within in
    record {
      there =
          is ∙ (λ i. let one : FoundInText (List (List ℕ)) = Some (sym text i ∷ sym same i, rest.now) in one)
          ∙ ap (λ (ids : List TyId). let one : FoundInText (List (List ℕ)) = Some (map (text_under heads new) ids, rest.now) in one) (sym made);
      within =
          subst (AreTypes new.types) (sym made)
          (All-cons (λ (id : TyId). id.0 < length new.types) first others (let less = no_less old new grow.others in omega arith) all);
      own = subst (BeginWithSelf new n) (sym made) (self_stays old new grow.others n first own);
      missing = λ e. absurd (cc e);
      grow = grow;
    }

-- methods that were there are as they were
still_method : (heads old new : ItemTable) (n : ℕ) (sig : Sig) → Grow heads old new → IsMethod old.types n sig → IsMethod new.types n sig
still_method heads old new n sig grow is = record {
  head = record {
    params = still_types heads old new sig.params grow is.head.params;
    answer = let less = no_less old new grow.others in let own = is.head.answer in omega arith;
  };
  receiver = begin_stays old new grow.others n sig.params is.receiver;
}

pub still_methods : (heads old new : ItemTable) (n : ℕ) (methods : List Sig) → Grow heads old new → All (IsMethod old.types n) methods → All (IsMethod new.types n) methods
still_methods heads old new n methods grow all k d lt = still_method heads old new n _ grow (all k d lt)

seen_grown : (heads old new : ItemTable) (n : ℕ) → AreRead heads old.types → Grow heads old new → (methods : List Sig) → Every (IsMethod old.types n) methods
    → map (sig_seen (under heads new)) methods ≡ map (sig_seen (under heads old)) methods
seen_grown heads old new n read grow [] all = refl
seen_grown heads old new n read grow (v ∷ vs) all =
    let types = texts_grown heads old new read grow.others v.params (every_from_all (λ (id : TyId). id.0 < length old.types) v.params all.0.head.params) in
    let answer = text_grown heads old new read grow.others v.result all.0.head.answer in
    λ i. (v.name, types i, answer i) ∷ seen_grown heads old new n read grow vs all.1 i

pub one_more_method : (types : List Ty) (n : ℕ) (methods : List Sig) (sig : Sig) → All (IsMethod types n) methods → IsMethod types n sig → All (IsMethod types n) (methods ++ sig ∷ [])
one_more_method types n methods sig all one = All-append (IsMethod types n) methods (sig ∷ []) all (All-cons (IsMethod types n) sig [] one (All-nil (IsMethod types n)))

module _ (heads : ItemTable) (n : ℕ) (read : List ℕ → FoundInText SigSeen) where
  abbrev pub so_far : ItemTable → List Sig → List SigSeen × List ℕ → List SigSeen × List ℕ
  so_far items methods q = (map (sig_seen (under heads items)) methods ++ q.0, q.1)

  grown_so_far : (old new : ItemTable) (methods : List Sig) (q : List SigSeen × List ℕ) → All (IsMethod old.types n) methods → AreRead heads old.types → Grow heads old new
      → so_far new methods q ≡ so_far old methods q
  grown_so_far old new methods q within types grow =
      ap (λ (ws : List SigSeen). (ws ++ q.0, q.1)) (seen_grown heads old new n types grow methods (every_from_all (IsMethod old.types n) methods within))

  none_many : (fuel : ℕ) (t : List ℕ) → read t ≡ None → many_within fuel read t ≡ ([], t)
  none_many zero t h = refl
  none_many (suc k) t h = rw h refl

  pub row_stops : (initial cur new : ItemTable) (fuel : ℕ) (before methods : List Sig) (rest : Bor (List ℕ)) (found : List SigSeen × List ℕ)
      → so_far cur methods (many_within fuel read rest.now) ≡ so_far initial before found → All (IsMethod cur.types n) methods → Grow heads initial cur → Grow heads cur new → read rest.now ≡ None
      → FindsMore heads initial new n before methods (Ok rest) found
  row_stops initial cur new fuel before methods rest found left within grow more none =
      let whole : so_far new methods ([], rest.now) ≡ so_far initial before found =
      grown_so_far cur new methods ([], rest.now) within grow.types more ∙ ap (so_far cur methods) (sym (none_many fuel rest.now none)) ∙ left in
      record {
        there = (
          sym (append-nil (map (sig_seen (under heads new)) methods)) ∙ ap (λ (q : List SigSeen × List ℕ). q.0) whole,
          ap (λ (q : List SigSeen × List ℕ). q.1) whole,
        );
        within = still_methods heads cur new n methods more within;
        grow = then_grow heads initial cur new grow more;
      }

  pub row_goes_on : (initial cur new : ItemTable) (fuel k : ℕ) (before methods after : List Sig) (sig : Sig) (rest behind : List ℕ) (found : List SigSeen × List ℕ) → fuel ≡ suc k
      → so_far cur methods (many_within fuel read rest) ≡ so_far initial before found → All (IsMethod cur.types n) methods → Grow heads initial cur → Grow heads cur new
      → read rest ≡ Some (sig_seen (under heads new) sig, behind) → after ≡ methods ++ sig ∷ []
      → so_far new after (many_within k read behind) ≡ so_far initial before found
  row_goes_on initial cur new fuel k before methods after sig rest behind found e left within grow more is pushed =
      let q : List SigSeen × List ℕ = many_within k read behind in
      let step : many_within fuel read rest ≡ (sig_seen (under heads new) sig ∷ q.0, q.1) =
      ap (λ (n : ℕ). many_within n read rest) e ∙ ap (λ (f : FoundInText SigSeen). Rattle.listing_write.specs.Reading.Rows.after f (many_within k read) rest) is in
      ap (λ (vs : List Sig). so_far new vs q) pushed
      ∙ ap (λ (ws : List SigSeen). (ws ++ q.0, q.1)) (map-append (sig_seen (under heads new)) methods (sig ∷ []))
      ∙ ap (λ (ws : List SigSeen). (ws, q.1)) (append_assoc (map (sig_seen (under heads new)) methods) (sig_seen (under heads new) sig ∷ []) q.0)
      ∙ grown_so_far cur new methods (sig_seen (under heads new) sig ∷ q.0, q.1) within grow.types more
      ∙ ap (so_far cur methods) (sym step)
      ∙ left

-- want of memory in the midst of a row
pub row_fails : (heads initial cur new : ItemTable) (n : ℕ) (before methods : List Sig) (result : Result (Bor (List ℕ)) NoMemory) (found : List SigSeen × List ℕ) → IsErr result
    → All (IsMethod cur.types n) methods → Grow heads initial cur → Grow heads cur new → FindsMore heads initial new n before methods result found
row_fails heads initial cur new n before methods (Ok rest) found is within grow more = absurd (false≢true is)
row_fails heads initial cur new n before methods (Err e) found is within grow more = record {
  there = tt;
  within = still_methods heads cur new n methods more within;
  grow = then_grow heads initial cur new grow more;
}

-- the own name of a trait
pub own_named : (heads : ItemTable) (n : ℕ) (def : TraitDef) (name : List ℕ) → slice_get heads.traits n ≡ Some def → same_name name def.name ≡ true → (n < length heads.traits) × (name ≡ trait_name heads n)
own_named heads n def name at same = (slice_get_within heads.traits n def at, same_is name def.name same ∙ ap name_of_trait (sym at))
