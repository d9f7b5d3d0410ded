-- Rows of types that are read into a table.
use Rattle.std.proofs.Common.{◌≡◌, ℕ, zero, suc, ◌<◌, List, [], ◌∷◌, ◌++◌, map, length, Some, None, refl, ap, sym, subst, ◌∙◌, arith, append_assoc, append-nil}
use Rattle.std.specs.Prelude.{Result, Ok, Err, IfOk}
use Rattle.std.specs.Borrow.{Bor}
use Rattle.std.proofs.lemmas.List.Elements.{All-append, All-cons, All-nil}
use Rattle.mir_base.specs.declared.memory.NoMemory.{NoMemory}
use Rattle.mir_ty.specs.declared.ty.Ty.{Ty}
use Rattle.mir_ty.specs.declared.ty.TyId.{TyId}
use Rattle.mir_ty.specs.AreItems.{AreTypes}
use Rattle.mir_ty.specs.ItemTable.{ItemTable}
use Rattle.listing_write.specs.Reading.Rows.{many, many_within, after, comma, row, row_from}
use Rattle.listing_write.specs.Reading.Words.{FoundInText, bind}
use Rattle.listing_parts.specs.Table.{AreRead, Grow, text_under}
use Rattle.listing_parts.specs.TypesRead.{FindsRow}
use Rattle.listing_parts.specs.TypeReading.{begin_read, rest_read, type_within}
use Rattle.listing_parts.specs.declared.begin.Begin.{Begin}
use Rattle.listing_parts.proofs.Texts.{every_from_all, texts_grown, no_less, then_types}

pub map-append : {X Z : Type 0} (f : X → Z) (xs ys : List X) → map f (xs ++ ys) ≡ map f xs ++ map f ys
map-append f [] ys = refl
map-append f (x ∷ xs) ys = ap (λ (zs : List _). f x ∷ zs) (map-append f xs ys)

pub then_grow : (heads a b c : ItemTable) → Grow heads a b → Grow heads b c → Grow heads a c
then_grow heads a b c left right = record { types = right.types; others = then_types a b c left.others right.others }

pub still_types : (heads old new : ItemTable) (ids : List TyId) → Grow heads old new → AreTypes old.types ids → AreTypes new.types ids
still_types heads old new ids grow within n d lt = let less = no_less old new grow.others in let own = within n d lt in omega arith

pub one_more_type : (types : List Ty) (ids : List TyId) (id : TyId) → AreTypes types ids → id.0 < length types → AreTypes types (ids ++ id ∷ [])
one_more_type types ids id within one = All-append (λ (id : TyId). id.0 < length types) ids (id ∷ []) within (All-cons (λ (id : TyId). id.0 < length types) id [] one (All-nil (λ (id : TyId). id.0 < length types)))

module _ (heads : ItemTable) (read : List ℕ → FoundInText (List ℕ)) where
  abbrev pub so_far : ItemTable → List TyId → List (List ℕ) × List ℕ → List (List ℕ) × List ℕ
  so_far items parts q = (map (text_under heads items) parts ++ q.0, q.1)

  grown_so_far : (old new : ItemTable) (parts : List TyId) (q : List (List ℕ) × List ℕ) → AreTypes old.types parts → AreRead heads old.types → Grow heads old new → so_far new parts q ≡ so_far old parts q
  grown_so_far old new parts q within types grow =
      ap (λ (ws : List (List ℕ)). (ws ++ q.0, q.1)) (texts_grown heads old new types grow.others parts (every_from_all (λ (id : TyId). id.0 < length old.types) parts within))

  none_many : (fuel : ℕ) (t : List ℕ) → read t ≡ None → many_within fuel read t ≡ ([], t)
  none_many zero t h = refl
  none_many (suc k) t h = rw h refl

  pub row_stops : (initial cur new : ItemTable) (fuel : ℕ) (before parts : List TyId) (rest : Bor (List ℕ)) (found : List (List ℕ) × List ℕ)
      → so_far cur parts (many_within fuel read rest.now) ≡ so_far initial before found → AreTypes cur.types parts → Grow heads initial cur → Grow heads cur new → read rest.now ≡ None
      → FindsRow heads initial new before parts (Ok rest) found
  row_stops initial cur new fuel before parts rest found left within grow more none =
      let whole : so_far new parts ([], rest.now) ≡ so_far initial before found =
      grown_so_far cur new parts ([], rest.now) within grow.types more ∙ ap (so_far cur parts) (sym (none_many fuel rest.now none)) ∙ left in
      record {
        there = (
          sym (append-nil (map (text_under heads new) parts)) ∙ ap (λ (q : List (List ℕ) × List ℕ). q.0) whole,
          ap (λ (q : List (List ℕ) × List ℕ). q.1) whole,
        );
        within = still_types heads cur new parts more within;
        grow = then_grow heads initial cur new grow more;
      }

  pub row_goes_on : (initial cur new : ItemTable) (fuel k : ℕ) (before parts after : List TyId) (id : TyId) (rest behind : List ℕ) (found : List (List ℕ) × List ℕ) → fuel ≡ suc k
      → so_far cur parts (many_within fuel read rest) ≡ so_far initial before found → AreTypes cur.types parts → Grow heads initial cur → Grow heads cur new
      → read rest ≡ Some (text_under heads new id, behind) → after ≡ parts ++ id ∷ []
      → so_far new after (many_within k read behind) ≡ so_far initial before found
  row_goes_on initial cur new fuel k before parts after id rest behind found e left within grow more is pushed =
      let q : List (List ℕ) × List ℕ = many_within k read behind in
      let step : many_within fuel read rest ≡ (text_under heads new id ∷ q.0, q.1) =
      ap (λ (n : ℕ). many_within n read rest) e ∙ ap (λ (f : FoundInText (List ℕ)). after_ f) is in
      ap (λ (ids : List TyId). so_far new ids q) pushed
      ∙ ap (λ (ws : List (List ℕ)). (ws ++ q.0, q.1)) (map-append (text_under heads new) parts (id ∷ []))
      ∙ ap (λ (ws : List (List ℕ)). (ws, q.1)) (append_assoc (map (text_under heads new) parts) (text_under heads new id ∷ []) q.0)
      ∙ grown_so_far cur new parts (text_under heads new id ∷ q.0, q.1) within grow.types more
      ∙ ap (so_far cur parts) (sym step)
      ∙ left
    where
      after_ : FoundInText (List ℕ) → List (List ℕ) × List ℕ
      after_ f = Rattle.listing_write.specs.Reading.Rows.after f (many_within k read) rest

-- a row of no types
pub row_of_none : (heads old new : ItemTable) (read : List ℕ → FoundInText (List ℕ)) (parts : List TyId) (text : Bor (List ℕ)) → AreTypes old.types parts → AreRead heads old.types → Grow heads old new → read text.now ≡ None
    → FindsRow heads old new parts parts (Ok text) (row read text.now)
row_of_none heads old new read parts text within types grow none =
    subst (FindsRow heads old new parts parts (Ok text)) (sym (ap (λ (f : FoundInText (List ℕ)). row_from read f text.now) none))
    (record {
      there = (texts_grown heads old new types grow.others parts (every_from_all (λ (id : TyId). id.0 < length old.types) parts within) ∙ sym (append-nil (map (text_under heads old) parts)), refl);
      within = still_types heads old new parts grow within;
      grow = grow;
    })

-- a row of a type and more
pub row_of_more : (heads old mid new : ItemTable) (read : List ℕ → FoundInText (List ℕ)) (before parts last : List TyId) (id : TyId) (text rest : List ℕ) (result : Result (Bor (List ℕ)) NoMemory)
    → AreTypes old.types before → AreRead heads old.types → Grow heads old mid → read text ≡ Some (text_under heads mid id, rest) → parts ≡ before ++ id ∷ [] → FindsRow heads mid new parts last result (many (comma read) rest)
    → FindsRow heads old new before last result (row read text)
row_of_more heads old mid new read before parts last id text rest result within types grow is pushed more =
    subst (FindsRow heads old new before last result) (sym (ap (λ (f : FoundInText (List ℕ)). row_from read f text) is))
    (record { there = by result more.there; within = more.within; grow = then_grow heads old mid new grow more.grow })
  where
    q : List (List ℕ) × List ℕ
    q = many (comma read) rest

    front : map (text_under heads mid) parts ++ q.0 ≡ map (text_under heads old) before ++ (text_under heads mid id ∷ q.0)
    front =
        ap (λ (ids : List TyId). map (text_under heads mid) ids ++ q.0) pushed
        ∙ ap (λ (ws : List (List ℕ)). ws ++ q.0) (map-append (text_under heads mid) before (id ∷ []))
        ∙ append_assoc (map (text_under heads mid) before) (text_under heads mid id ∷ []) q.0
        ∙ ap (λ (ws : List (List ℕ)). ws ++ (text_under heads mid id ∷ q.0)) (texts_grown heads old mid types grow.others before (every_from_all (λ (id : TyId). id.0 < length old.types) before within))

    by : (r : Result (Bor (List ℕ)) NoMemory) → IfOk r (λ rest. (map (text_under heads new) last ≡ map (text_under heads mid) parts ++ q.0) × (rest.now ≡ q.1))
        → IfOk r (λ rest. (map (text_under heads new) last ≡ map (text_under heads old) before ++ (text_under heads mid id ∷ q.0)) × (rest.now ≡ q.1))
    by (Ok rest) h = (h.0 ∙ front, h.1)
    by (Err e) h = tt

-- a type behind its beginning
pub begun : (heads : ItemTable) (depth k : ℕ) (text : List ℕ) (b : Begin × List ℕ) → depth ≡ suc k → begin_read heads text ≡ Some b → type_within heads depth text ≡ rest_read (type_within heads k) heads b
begun heads depth k text b e is = ap (λ (n : ℕ). type_within heads n text) e ∙ ap (λ (o : FoundInText Begin). bind o (rest_read (type_within heads k) heads)) is
