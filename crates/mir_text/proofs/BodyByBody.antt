-- Bodies that are read, with their signatures.
use Rattle.std.proofs.Common.{◌≡◌, ℕ, suc, ◌<◌, Bool, true, false, List, [], ◌∷◌, ◌++◌, All, length, Some, refl, ap, sym, subst, ◌∙◌, arith}
use Rattle.std.specs.Prelude.{Result, Ok, Err}
use Rattle.std.specs.Borrow.{Bor}
use Rattle.std.proofs.lemmas.List.Elements.{All-append, All-cons, All-nil}
use Rattle.std.proofs.lemmas.Option.{slice_get_within}
use Rattle.mir_ty.specs.declared.def.Sig.{Sig}
use Rattle.mir_ty.specs.declared.ty.Ty.{Ty}
use Rattle.mir_ty.specs.declared.ty.TyId.{TyId}
use Rattle.mir_ty.specs.AreItems.{AreTypes}
use Rattle.mir_ty.specs.ItemTable.{ItemTable, with_body}
use Rattle.cfg_graph.specs.declared.graph.Body.{Body}
use Rattle.listing_write.specs.Reading.Words.{FoundInText}
use Rattle.listing_write.proofs.Reading.Basics.{Every}
use Rattle.listing_lines.proofs.Until.{so_far, one_more, last_one, no_more, all_gone}
use Rattle.listing_parts.specs.declared.error.ReadError.{ReadError}
use Rattle.listing_parts.specs.Table.{AreRead, Grow}
use Rattle.listing_parts.proofs.FoundRows.{still_types, then_grow}
use Rattle.listing_parts.proofs.Texts.{every_from_all, texts_grown, still_there}
use Rattle.mir_text.specs.BodyReading.{BodyTold, body_read, bodies_read}
use Rattle.mir_text.specs.BodiesRead.{body_told, bodies_told, IsResultOf, IsSigOf, AreSigned, FindsBody, FindsSig, BodiesDrafted, NoBodyMore, OneBodyMore, AddsBody, FindsBodies}
use Rattle.mir_text.specs.SectionsRead.{items_seen, Drafted}
use Rattle.mir_text.proofs.Growing.{seen_grown, drafted_grown, same_bodies, missed}

one_more_all : {X : Type 0} (P : X → Type 0) (xs : List X) (x : X) → All P xs → P x → All P (xs ++ x ∷ [])
one_more_all P xs x all one = All-append P xs (x ∷ []) all (All-cons P x [] one (All-nil P))

-- one more behind those before it
told_more : (heads items : ItemTable) (sigs : List Sig) (bodies : List Body) (sig : Sig) (body : Body) → AreSigned items sigs bodies
    → bodies_told heads items (sigs ++ sig ∷ []) (bodies ++ body ∷ []) ≡ bodies_told heads items sigs bodies ++ body_told heads items sig.name body ∷ []
told_more heads items [] [] sig body h = refl
told_more heads items (s ∷ sigs) [] sig body h = absurd h
told_more heads items [] (b ∷ bodies) sig body h = absurd h
told_more heads items (s ∷ sigs) (b ∷ bodies) sig body h = ap (λ (xs : List BodyTold). body_told heads items s.name b ∷ xs) (told_more heads items sigs bodies sig body h.1)

signed_more : (items : ItemTable) (sigs : List Sig) (bodies : List Body) (sig : Sig) (body : Body) → AreSigned items sigs bodies → IsSigOf items body sig → AreSigned items (sigs ++ sig ∷ []) (bodies ++ body ∷ [])
signed_more items [] [] sig body h one = (one, tt)
signed_more items (s ∷ sigs) [] sig body h one = absurd h
signed_more items [] (b ∷ bodies) sig body h one = absurd h
signed_more items (s ∷ sigs) (b ∷ bodies) sig body h one = (h.0, signed_more items sigs bodies sig body h.1 one)

module _ (heads old new : ItemTable) (read : AreRead heads old.types) (grow : Grow heads old new) where
  body_grown : (name : List ℕ) (body : Body) → AreTypes old.types body.locals → body_told heads new name body ≡ body_told heads old name body
  body_grown name body within = λ i. record {
    name = name;
    params = body.params;
    locals = texts_grown heads old new read grow.others body.locals (every_from_all (λ (id : TyId). id.0 < length old.types) body.locals within) i;
    blocks = body.blocks;
  }

  told_grown : (sigs : List Sig) (bodies : List Body) → Every (λ body. AreTypes old.types body.locals) bodies → bodies_told heads new sigs bodies ≡ bodies_told heads old sigs bodies
  told_grown [] bodies all = refl
  told_grown (sig ∷ sigs) [] all = refl
  told_grown (sig ∷ sigs) (body ∷ bodies) all = λ i. body_grown sig.name body all.0 i ∷ told_grown sigs bodies all.1 i

  result_grown : (locals : List TyId) (id : TyId) → IsResultOf old locals id → IsResultOf new locals id
  result_grown [] id h = still_there old new grow.others id (slice_get_within old.types id.0 Ty.Unit h) ∙ h
  result_grown (first ∷ others) id h = h

  signed_grown : (sigs : List Sig) (bodies : List Body) → AreSigned old sigs bodies → AreSigned new sigs bodies
  signed_grown [] [] h = tt
  signed_grown (sig ∷ sigs) [] h = absurd h
  signed_grown [] (body ∷ bodies) h = absurd h
  signed_grown (sig ∷ sigs) (body ∷ bodies) h = (record { params = h.0.params; answer = result_grown body.locals sig.result h.0.answer }, signed_grown sigs bodies h.1)

module _ (heads old new : ItemTable) (before : List Body) (d : BodiesDrafted heads old before) (grow : Grow heads old new) where
  bodies_same : new.bodies ≡ old.bodies
  bodies_same = same_bodies heads old new d.drafted grow

  still_within : All (λ body. AreTypes new.types body.locals) before
  still_within = λ k x lt. still_types heads old new _ grow (d.within k x lt)

  told_stays : (sigs : List Sig) → bodies_told heads new sigs before ≡ bodies_told heads old sigs before
  told_stays sigs = told_grown heads old new d.drafted.types grow sigs before (every_from_all (λ (body : Body). AreTypes old.types body.locals) before d.within)

  -- types alone were added
  pub no_body : (last : ItemTable) (after : List Body) → last ≡ new → after ≡ before → NoBodyMore heads old last before after
  no_body last after same none = record {
    bodies = (λ i. bodies_told heads (same i) (same i).bodies (none i)) ∙ ap (λ (sigs : List Sig). bodies_told heads new sigs before) bodies_same ∙ told_stays old.bodies;
    drafted =
        subst (λ (x : ItemTable). BodiesDrafted heads x after) (sym same) (subst (BodiesDrafted heads new) (sym none)
        (record {
          drafted = drafted_grown heads old new d.drafted grow;
          within = still_within;
          signed = subst (λ (sigs : List Sig). AreSigned new sigs before) (sym bodies_same) (signed_grown heads old new d.drafted.types grow old.bodies before d.signed);
        }));
    items = ap (items_seen heads) same ∙ seen_grown heads old new d.drafted grow;
  }

  -- and a body
  pub one_body : (last : ItemTable) (after : List Body) (sig : Sig) (body : Body) (told : BodyTold) → AreTypes new.types body.locals → IsSigOf new body sig → body_told heads new sig.name body ≡ told
      → last ≡ with_body new sig → after ≡ before ++ body ∷ [] → OneBodyMore heads old last before after told
  one_body last after sig body told within signed is added pushed =
      let sigs : List Sig = old.bodies ++ sig ∷ [] in
      let bodies : List Body = before ++ body ∷ [] in
      let here : AreSigned new old.bodies before = signed_grown heads old new d.drafted.types grow old.bodies before d.signed in
      let at : (with_body new sig).bodies ≡ sigs = ap (λ (xs : List Sig). xs ++ sig ∷ []) bodies_same in
      let seen : bodies_told heads new sigs bodies ≡ bodies_told heads old old.bodies before ++ told ∷ [] =
      told_more heads new old.bodies before sig body here ∙ (λ i. told_stays old.bodies i ++ is i ∷ []) in
      let grown = drafted_grown heads old new d.drafted grow in
      record {
        bodies = (λ i. bodies_told heads (added i) (added i).bodies (pushed i)) ∙ ap (λ (xs : List Sig). bodies_told heads new xs bodies) at ∙ seen;
        drafted =
            subst (λ (x : ItemTable). BodiesDrafted heads x after) (sym added) (subst (BodiesDrafted heads (with_body new sig)) (sym pushed)
            (record {
              drafted = record { types = grown.types; adts = grown.adts; traits = grown.traits; closures = grown.closures };
              within = one_more_all (λ body. AreTypes new.types body.locals) before body still_within within;
              signed = subst (λ (xs : List Sig). AreSigned (with_body new sig) xs bodies) (sym at) (told_signed old.bodies before here);
            }));
        items = ap (items_seen heads) added ∙ seen_grown heads old new d.drafted grow;
      }
    where
      same_items : (sigs : List Sig) (bodies : List Body) → AreSigned new sigs bodies → AreSigned (with_body new sig) sigs bodies
      same_items [] [] h = tt
      same_items (s ∷ sigs) [] h = absurd h
      same_items [] (b ∷ bodies) h = absurd h
      same_items (s ∷ sigs) (b ∷ bodies) h = (record { params = h.0.params; answer = same_result b.locals s.result h.0.answer }, same_items sigs bodies h.1)
        where
          same_result : (locals : List TyId) (id : TyId) → IsResultOf new locals id → IsResultOf (with_body new sig) locals id
          same_result [] id h = h
          same_result (first ∷ others) id h = h

      told_signed : (sigs : List Sig) (bodies : List Body) → AreSigned new sigs bodies → AreSigned (with_body new sig) (sigs ++ sig ∷ []) (bodies ++ body ∷ [])
      told_signed sigs bodies h = same_items (sigs ++ sig ∷ []) (bodies ++ body ∷ []) (signed_more new sigs bodies sig body h signed)

-- a body that was read, and given a signature
pub body_added : (heads old mid mid2 new : ItemTable) (before after : List Body) (name : Bor (List ℕ)) (body : Body) (whole : Bool) (rest : Bor (List ℕ)) (sig : Sig) (found : FoundInText (BodyTold × Bool)) → BodiesDrafted heads old before
    → FindsBody heads old mid (Ok (((name, body), whole), rest)) found → FindsSig heads mid mid2 name.now body (Ok sig) → new ≡ with_body mid2 sig → after ≡ before ++ body ∷ []
    → AddsBody heads old new before after (Ok (whole, rest)) found
body_added heads old mid mid2 new before after name body whole rest sig found d read signed added pushed = record {
  there = (
    body_told heads mid name.now body,
    read.there,
    one_body heads old mid2 before d (then_grow heads old mid mid2 read.grow signed.grow) new after sig body (body_told heads mid name.now body) (still_types heads mid mid2 body.locals signed.grow read.within) signed.sig_of
        (ap (λ (n : List ℕ). body_told heads mid2 n body) signed.name_is ∙ body_grown heads mid mid2 read.grow.types signed.grow name.now body read.within) added pushed,
  );
  missing = λ h. absurd (cc h);
}

pub body_missing : (heads old mid : ItemTable) (before : List Body) (result : Result (((Bor (List ℕ) × Body) × Bool) × Bor (List ℕ)) ReadError) (e : ReadError) (found : FoundInText (BodyTold × Bool)) → BodiesDrafted heads old before
    → FindsBody heads old mid result found → result ≡ Err e → AddsBody heads old mid before before (Err e) found
body_missing heads old mid before result e found d read is = record {
  there = tt;
  missing = λ h. (read.missing (missed result e is h), no_body heads old mid before d read.grow mid before refl refl);
}

-- the loop
module _ (heads : ItemTable) where
  pub record SoFar (initial cur : ItemTable) (n fuel : ℕ) (bodies : List Body) (text rest : List ℕ) : Type 0 where
    pub left : bodies_read heads text ≡ so_far (body_read heads) fuel n (bodies_told heads cur cur.bodies bodies) rest
    pub drafted : BodiesDrafted heads cur bodies
    pub items : items_seen heads cur ≡ items_seen heads initial

  pub begins : (initial : ItemTable) (text : List ℕ) (fuel : ℕ) (bodies : List Body) → initial.bodies ≡ [] → bodies ≡ [] → fuel ≡ length text → Drafted heads initial → SoFar initial initial 0 fuel bodies text text
  begins initial text fuel bodies none start e d = record {
    left = (λ i. so_far (body_read heads) (sym e i) 0 (bodies_told heads initial (sym none i) bodies) text);
    drafted = record {
      drafted = d;
      within = subst (λ (xs : List Body). All (λ body. AreTypes initial.types body.locals) xs) (sym start) (λ k x lt. absurd (omega arith));
      signed = (λ (q : AreSigned initial [] []). subst (λ (xs : List Body). AreSigned initial initial.bodies xs) (sym start) (subst (λ (xs : List Sig). AreSigned initial xs []) (sym none) q)) tt;
    };
    items = refl;
  }

  module _ (initial cur new : ItemTable) (n : ℕ) (bodies after : List Body) (text : List ℕ) where
    pub goes_on : (m fuel k : ℕ) (rest : List ℕ) (whole : Bool) (behind : Bor (List ℕ)) → fuel ≡ suc k → m ≡ suc n → whole ≡ true → SoFar initial cur n fuel bodies text rest
        → AddsBody heads cur new bodies after (Ok (whole, behind)) (body_read heads n rest) → SoFar initial new m k after text behind.now
    goes_on m fuel k rest whole behind e next is s one =
        let (told, found, more) = one.there in
        let at : body_read heads n rest ≡ Some ((told, true), behind.now) = found ∙ ap (λ (v : Bool). Some ((told, v), behind.now)) is in
        record {
          left =
              s.left ∙ one_more (body_read heads) fuel k n m (bodies_told heads cur cur.bodies bodies) told rest behind.now e next at
              ∙ ap (λ (xs : List BodyTold). so_far (body_read heads) k m xs behind.now) (sym more.bodies);
          drafted = more.drafted;
          items = more.items ∙ s.items;
        }

    pub breaks : (fuel k : ℕ) (rest : List ℕ) (whole : Bool) (behind : Bor (List ℕ)) → fuel ≡ suc k → whole ≡ false → SoFar initial cur n fuel bodies text rest
        → AddsBody heads cur new bodies after (Ok (whole, behind)) (body_read heads n rest) → FindsBodies heads initial new (Ok ((after, false), behind)) (bodies_read heads text)
    breaks fuel k rest whole behind e is s one =
        let (told, found, more) = one.there in
        let at : body_read heads n rest ≡ Some ((told, false), behind.now) = found ∙ ap (λ (v : Bool). Some ((told, v), behind.now)) is in
        let all : bodies_read heads text ≡ ((bodies_told heads cur cur.bodies bodies ++ told ∷ [], false), behind.now) =
        s.left ∙ last_one (body_read heads) fuel k n (bodies_told heads cur cur.bodies bodies) told rest behind.now e at in
        record {
          there = (
            more.bodies ∙ ap (λ (q : (List BodyTold × Bool) × List ℕ). q.0.0) (sym all),
            ap (λ (q : (List BodyTold × Bool) × List ℕ). q.0.1) (sym all),
            ap (λ (q : (List BodyTold × Bool) × List ℕ). q.1) (sym all),
          );
          drafted = more.drafted;
          items = more.items ∙ s.items;
        }

    pub stops : (fuel : ℕ) (rest : Bor (List ℕ)) → SoFar initial cur n fuel bodies text rest.now → AddsBody heads cur new bodies after (Err ReadError.Unreadable) (body_read heads n rest.now)
        → FindsBodies heads initial new (Ok ((after, true), rest)) (bodies_read heads text)
    stops fuel rest s one =
        let (none, same) = one.missing refl in
        let all : bodies_read heads text ≡ ((bodies_told heads cur cur.bodies bodies, true), rest.now) =
        s.left ∙ no_more (body_read heads) fuel n (bodies_told heads cur cur.bodies bodies) rest.now none in
        record {
          there = (
            same.bodies ∙ ap (λ (q : (List BodyTold × Bool) × List ℕ). q.0.0) (sym all),
            ap (λ (q : (List BodyTold × Bool) × List ℕ). q.0.1) (sym all),
            ap (λ (q : (List BodyTold × Bool) × List ℕ). q.1) (sym all),
          );
          drafted = same.drafted;
          items = same.items ∙ s.items;
        }

  pub ends : (initial cur : ItemTable) (n fuel : ℕ) (bodies : List Body) (text : List ℕ) (rest : Bor (List ℕ)) → fuel ≡ 0 → SoFar initial cur n fuel bodies text rest.now
      → FindsBodies heads initial cur (Ok ((bodies, true), rest)) (bodies_read heads text)
  ends initial cur n fuel bodies text rest e s =
      let all : bodies_read heads text ≡ ((bodies_told heads cur cur.bodies bodies, true), rest.now) = s.left ∙ all_gone (body_read heads) fuel n (bodies_told heads cur cur.bodies bodies) rest.now e in
      record {
        there = (
          ap (λ (q : (List BodyTold × Bool) × List ℕ). q.0.0) (sym all),
          ap (λ (q : (List BodyTold × Bool) × List ℕ). q.0.1) (sym all),
          ap (λ (q : (List BodyTold × Bool) × List ℕ). q.1) (sym all),
        );
        drafted = s.drafted;
        items = s.items;
      }
