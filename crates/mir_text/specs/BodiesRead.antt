-- What the readers of bodies answer, as definitions see it.
use Rattle.std.specs.Prelude.{◌≡◌, ℕ, Bool, List, [], ◌∷◌, ◌++◌, ⊤, map, take, drop, Some, None, All, Result, Err, IfOk}
use Rattle.std.specs.Borrow.{Bor}
use Rattle.mir_base.specs.declared.memory.NoMemory.{NoMemory}
use Rattle.mir_ty.specs.declared.def.Sig.{Sig}
use Rattle.mir_ty.specs.declared.ty.Ty.{Ty}
use Rattle.mir_ty.specs.declared.ty.TyId.{TyId}
use Rattle.mir_ty.specs.AreItems.{AreTypes, IsSig}
use Rattle.mir_ty.specs.ItemTable.{ItemTable, type_at}
use Rattle.cfg_graph.specs.declared.graph.Body.{Body}
use Rattle.listing_write.specs.Compared.{Written}
use Rattle.listing_write.specs.Reading.Words.{FoundInText}
use Rattle.listing_parts.specs.declared.error.ReadError.{ReadError}
use Rattle.listing_parts.specs.Table.{Grow, text_under}
use Rattle.mir_text.specs.BodyReading.{BodyTold}
use Rattle.mir_text.specs.SectionsRead.{items_seen, Drafted}

-- the locals that were found have their types in the new items, where they are written so
pub record FindsLocals (heads old new : ItemTable) (result : Result (List TyId × Bor (List ℕ)) NoMemory)
    (found : List Written × List ℕ) : Type 0 where
  pub there : IfOk result (λ f. (map (text_under heads new) f.0 ≡ found.0) × (f.1.now ≡ found.1))
  pub within : IfOk result (λ f. AreTypes new.types f.0)
  pub grow : Grow heads old new

-- a body as it is seen under heads, without its name
abbrev pub body_told : ItemTable → ItemTable → List ℕ → Body → BodyTold
body_told heads items name body =
    record {
      name = name;
      params = body.params;
      locals = map (text_under heads items) body.locals;
      blocks = body.blocks;
    }

-- the body that was found, with its name
pub record FindsBody (heads old new : ItemTable)
    (result : Result (((Bor (List ℕ) × Body) × Bool) × Bor (List ℕ)) ReadError) (found : FoundInText (BodyTold × Bool))
    : Type 0 where
  pub there : IfOk result (λ f. found ≡ Some ((body_told heads new f.0.0.0.now f.0.0.1, f.0.1), f.1.now))
  pub within : IfOk result (λ f. AreTypes new.types f.0.0.1.locals)
  pub missing : result ≡ Err ReadError.Unreadable → found ≡ None
  pub grow : Grow heads old new

-- the result of a body with these locals: the first of them, and `()` where there is none
abbrev pub IsResultOf : ItemTable → List TyId → TyId → Type 0
IsResultOf items [] id = type_at items id ≡ Some Ty.Unit
IsResultOf items (first ∷ others) id = id ≡ first

-- the signature that a listing tells of a body: the types of its parameters as far as there are locals
pub record IsSigOf (items : ItemTable) (body : Body) (sig : Sig) : Type 0 where
  pub params : sig.params ≡ take body.params (drop 1 body.locals)
  pub answer : IsResultOf items body.locals sig.result

-- the bodies have the signatures that their locals tell
abbrev pub AreSigned : ItemTable → List Sig → List Body → Type 0
AreSigned items [] [] = ⊤
AreSigned items (sig ∷ sigs) [] = ⊥
AreSigned items [] (body ∷ bodies) = ⊥
AreSigned items (sig ∷ sigs) (body ∷ bodies) = IsSigOf items body sig × AreSigned items sigs bodies

-- bodies with their names, as they are seen under heads
abbrev pub bodies_told : ItemTable → ItemTable → List Sig → List Body → List BodyTold
bodies_told heads items [] bodies = []
bodies_told heads items (sig ∷ sigs) [] = []
bodies_told heads items (sig ∷ sigs) (body ∷ bodies) =
    body_told heads items sig.name body ∷ bodies_told heads items sigs bodies

-- a signature that was made
pub record FindsSig (heads old new : ItemTable) (name : List ℕ) (body : Body) (result : Result Sig NoMemory)
    : Type 0 where
  pub name_is : IfOk result (λ sig. sig.name ≡ name)
  pub sig_of : IfOk result (λ sig. IsSigOf new body sig)
  pub within : IfOk result (λ sig. IsSig new.types sig)
  pub grow : Grow heads old new

-- what stays true of items and bodies while these are read
pub record BodiesDrafted (heads items : ItemTable) (bodies : List Body) : Type 0 where
  pub drafted : Drafted heads items
  pub within : All (λ body. AreTypes items.types body.locals) bodies
  pub signed : AreSigned items items.bodies bodies

-- items and bodies to which nothing but types was added
pub record NoBodyMore (heads old new : ItemTable) (before after : List Body) : Type 0 where
  pub bodies : bodies_told heads new new.bodies after ≡ bodies_told heads old old.bodies before
  pub drafted : BodiesDrafted heads new after
  pub items : items_seen heads new ≡ items_seen heads old

-- one body more, with its signature
pub record OneBodyMore (heads old new : ItemTable) (before after : List Body) (told : BodyTold) : Type 0 where
  pub bodies : bodies_told heads new new.bodies after ≡ bodies_told heads old old.bodies before ++ told ∷ []
  pub drafted : BodiesDrafted heads new after
  pub items : items_seen heads new ≡ items_seen heads old

-- a body that was found, or no such body
pub record AddsBody (heads old new : ItemTable) (before after : List Body)
    (result : Result (Bool × Bor (List ℕ)) ReadError) (found : FoundInText (BodyTold × Bool)) : Type 0 where
  pub there : IfOk result (λ f.
      (told : BodyTold) × (found ≡ Some ((told, f.0), f.1.now)) × OneBodyMore heads old new before after told)
  pub missing : result ≡ Err ReadError.Unreadable → (found ≡ None) × NoBodyMore heads old new before after

-- all bodies that were found, whether the last block was whole, and the text behind them
pub record FindsBodies (heads old new : ItemTable) (result : Result ((List Body × Bool) × Bor (List ℕ)) NoMemory)
    (found : (List BodyTold × Bool) × List ℕ) : Type 0 where
  pub there : IfOk result (λ f.
      (bodies_told heads new new.bodies f.0.0 ≡ found.0.0) × (f.0.1 ≡ found.0.1) × (f.1.now ≡ found.1))
  pub drafted : IfOk result (λ f. BodiesDrafted heads new f.0.0)
  pub items : IfOk result (λ f. items_seen heads new ≡ items_seen heads old)
