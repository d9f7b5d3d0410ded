-- Bodies with their locals and blocks, read as they are listed.
use Rattle.std.proofs.Common.{◌≡◌, ℕ, ◌<◌, true, List, [], ◌∷◌, ◌++◌, map, flat_map, length, codes, Some, None, decimal, nat_lt, refl, ap, ◌∙◌, arith, append_assoc, length-append, map-id}
use Rattle.std.specs.Prelude.{⊤}
use Rattle.std.specs.List.{list_all}
use Rattle.mir_ty.specs.declared.ty.TyId.{TyId}
use Rattle.mir_ty.specs.ItemTable.{ItemTable}
use Rattle.mir_ty.specs.Named.{adt_name, body_name}
use Rattle.cfg_graph.specs.WellFormed.NameFaults.{stands_in_names}
use Rattle.cfg_graph.specs.WellFormed.TypeFaults.{ty_exists}
use Rattle.cfg_graph.specs.declared.statement.Stmt.{Stmt}
use Rattle.cfg_graph.specs.declared.terminator.Term.{Term}
use Rattle.cfg_graph.specs.declared.graph.Block.{Block}
use Rattle.cfg_graph.specs.declared.graph.Body.{Body}
use Rattle.cfg_graph.specs.declared.graph.Kind.{Kind}
use Rattle.listing_write.specs.Compared.{Written, numbered}
use Rattle.listing_write.specs.Fields.{Fits, StmtFits, TermFits}
use Rattle.listing_write.specs.Items.{counted}
use Rattle.listing_write.specs.Lists.{line}
use Rattle.listing_write.specs.Listing.{kind_word, local_line, block_line, block_text, whole_body_text}
use Rattle.listing_write.specs.Parts.{stmt_text, term_text}
use Rattle.listing_write.specs.Types.{trait_name, type_text}
use Rattle.listing_write.proofs.Reading.Basics.{FoundInText, Every, bind, or_else, strip, span, span_run, is_digit, any_decimal, number, behind3, behind4, behind6}
use Rattle.listing_write.proofs.Reading.Rows.{EveryFrom, many, many_reads, numbered_reads, flat_counted, none_before}
use Rattle.listing_write.proofs.Reading.Types.{AreNamed, type_reader, type_reads}
use Rattle.listing_write.specs.Reading.Words.{said, as_}
use Rattle.listing_write.proofs.Reading.Parts.{number_of}
use Rattle.listing_write.proofs.Reading.Lines.{ended, stmt_read, term_read, Named, TermNamed, stmt_reads, term_reads, no_stmt}

line_some : (words : List ℕ) → 0 < length (line words)
line_some words = omega (arith, length-append words (10 ∷ []))

-- locals
abbrev local_type : List ℕ × List ℕ → FoundInText Written
local_type q = bind (strip (codes " ") q.1) (λ t. ended (type_reader t))

abbrev pub local_read : List ℕ → FoundInText Written
local_read t = bind (strip (codes "local ") t) (λ t. local_type (span is_digit t))

module _ (items : ItemTable) (names : AreNamed items) where
  local_reads : (n : ℕ) (id : TyId) → ty_exists items id ≡ true → (r : List ℕ) → ⊤ → local_read (local_line items n id ++ r) ≡ Some (type_text items id, r)
  local_reads n id exists r e =
      let at_type : List ℕ = codes " " ++ (type_text items id ++ (10 ∷ r)) in
      ap (λ (t : List ℕ). local_type (span is_digit t)) (behind4 (decimal n) (codes " ") (type_text items id) (10 ∷ []) r)
      ∙ ap local_type (span_run is_digit (decimal n) at_type (any_decimal n) refl)
      ∙ ap ended (type_reads items names id exists (10 ∷ r) refl)

  pub locals_read : (locals : List TyId) → Every (λ id. ty_exists items id ≡ true) locals → (r : List ℕ) → local_read r ≡ None
      → many local_read (counted (local_line items) 0 locals ++ r) ≡ (map (type_text items) locals, r)
  locals_read locals exist r stop =
      many_reads local_read (local_line items) (type_text items) (λ id. ty_exists items id ≡ true) (λ r. ⊤) local_reads (λ n id h r. tt)
      (λ n id. line_some (codes "local " ++ decimal n ++ codes " " ++ type_text items id)) 0 locals r exist tt stop

abbrev kind_of_block : List ℕ → FoundInText Kind
kind_of_block t = or_else (said (codes "plain") Kind.Plain t) (or_else (said (codes "turn") Kind.Turn t) (said (codes "cleanup") Kind.Cleanup t))

kind_reads : (kind : Kind) (r : List ℕ) → kind_of_block (kind_word kind ++ r) ≡ Some (kind, r)
kind_reads Kind.Plain r = refl
kind_reads Kind.Turn r = refl
kind_reads Kind.Cleanup r = refl

module _ (adt_no trait_no : List ℕ → ℕ) where
  abbrev stmt_line : List ℕ → FoundInText Stmt
  stmt_line t = ended (stmt_read adt_no trait_no t)

  abbrev with_term : Kind → ℕ → List Stmt × List ℕ → FoundInText Block
  with_term kind rank q = as_ (λ term. record { kind = kind; rank = rank; stmts = q.0; term = term }) (ended (term_read adt_no trait_no q.1))

  abbrev with_rank : Kind → FoundInText ℕ → FoundInText Block
  with_rank kind f = bind f (λ n. with_term kind n.0 (many stmt_line n.1))

  abbrev with_kind : Kind × List ℕ → FoundInText Block
  with_kind k = bind (strip (codes " rank ") k.1) (λ t. with_rank k.0 (ended (number t)))

  abbrev block_from : List ℕ × List ℕ → FoundInText Block
  block_from q = bind (strip (codes " ") q.1) (λ t. bind (kind_of_block t) with_kind)

  abbrev pub block_read : List ℕ → FoundInText Block
  block_read t = bind (strip (codes "block ") t) (λ t. block_from (span is_digit t))

  module _ (items : ItemTable)
      (adts : (n : ℕ) → nat_lt n (length items.adts) ≡ true → (list_all stands_in_names (adt_name items n) ≡ true) × (adt_no (adt_name items n) ≡ n))
      (traits : (n : ℕ) → nat_lt n (length items.traits) ≡ true → (list_all stands_in_names (trait_name items n) ≡ true) × (trait_no (trait_name items n) ≡ n)) where
    abbrev pub GoodStmt : Stmt → Type 0
    GoodStmt stmt = StmtFits stmt × Named adt_no trait_no items adts traits stmt

    pub record GoodBlock (block : Block) : Type 0 where
      pub rank : Fits block.rank
      pub stmts : Every GoodStmt block.stmts
      pub term : TermFits block.term
      pub named : TermNamed adt_no trait_no items traits block.term

    stmt_line_reads : (stmt : Stmt) → GoodStmt stmt → (r : List ℕ) → stmt_line (line (stmt_text items stmt) ++ r) ≡ Some (stmt, r)
    stmt_line_reads stmt good r =
        ap stmt_line (append_assoc (stmt_text items stmt) (10 ∷ []) r) ∙ ap ended (stmt_reads adt_no trait_no items adts traits stmt good.0 good.1 r)

    stmts_read : (stmts : List Stmt) → Every GoodStmt stmts → (r : List ℕ) → stmt_line r ≡ None → many stmt_line (flat_map (λ stmt. line (stmt_text items stmt)) stmts ++ r) ≡ (stmts, r)
    stmts_read stmts good r stop =
        ap (λ (w : List ℕ). many stmt_line (w ++ r)) (flat_counted (λ stmt. line (stmt_text items stmt)) 0 stmts)
        ∙ many_reads stmt_line (λ (n : ℕ) stmt. line (stmt_text items stmt)) (λ s. s) GoodStmt (λ r. ⊤) (λ n stmt good r e. stmt_line_reads stmt good r) (λ n stmt good r. tt)
        (λ n stmt. line_some (stmt_text items stmt)) 0 stmts r good tt stop
        ∙ ap (λ (xs : List Stmt). (xs, r)) (map-id stmts)

    block_reads : (n : ℕ) (block : Block) → GoodBlock block → (r : List ℕ) → ⊤ → block_read (block_text items n block ++ r) ≡ Some (block, r)
    block_reads n block good r e =
        let stmts : List ℕ = flat_map (λ stmt. line (stmt_text items stmt)) block.stmts in
        let at_term : List ℕ = line (term_text items block.term) ++ r in
        let at_stmts : List ℕ = stmts ++ at_term in
        let at_rank : List ℕ = codes " rank " ++ (decimal block.rank ++ (10 ∷ at_stmts)) in
        let at_kind : List ℕ = codes " " ++ (kind_word block.kind ++ at_rank) in
        let stop : stmt_line at_term ≡ None =
        ap stmt_line (append_assoc (term_text items block.term) (10 ∷ []) r) ∙ ap ended (no_stmt adt_no trait_no items traits block.term good.term (10 ∷ r)) in
        ap block_read (behind3 (block_line n block) stmts (line (term_text items block.term)) r)
        ∙ ap (λ (t : List ℕ). block_from (span is_digit t)) (behind6 (decimal n) (codes " ") (kind_word block.kind) (codes " rank ") (decimal block.rank) (10 ∷ []) at_stmts)
        ∙ ap block_from (span_run is_digit (decimal n) at_kind (any_decimal n) refl)
        ∙ ap (λ (f : FoundInText Kind). bind f with_kind) (kind_reads block.kind at_rank)
        ∙ ap (λ (f : FoundInText ℕ). with_rank block.kind (ended f)) (number_of block.rank (10 ∷ at_stmts) good.rank refl)
        ∙ ap (with_term block.kind block.rank) (stmts_read block.stmts good.stmts at_term stop)
        ∙ ap (λ (t : List ℕ). with_term block.kind block.rank (block.stmts, t)) (append_assoc (term_text items block.term) (10 ∷ []) r)
        ∙ ap (λ (f : FoundInText Term). as_ (λ (term : Term). record { kind = block.kind; rank = block.rank; stmts = block.stmts; term = term }) (ended f))
        (term_reads adt_no trait_no items traits block.term good.term good.named r)

    block_some : (n : ℕ) (block : Block) → 0 < length (block_text items n block)
    block_some n block = omega arith

    pub blocks_read : (blocks : List Block) → Every GoodBlock blocks → (r : List ℕ) → block_read r ≡ None → many block_read (counted (block_text items) 0 blocks ++ r) ≡ (blocks, r)
    blocks_read blocks good r stop =
        many_reads block_read (block_text items) (λ b. b) GoodBlock (λ r. ⊤) block_reads (λ n block good r. tt) block_some 0 blocks r good tt stop
        ∙ ap (λ (xs : List Block). (xs, r)) (map-id blocks)

-- what the lines of a body say by themselves
pub record BodyRead : Type 0 where
  pub name : List ℕ
  pub params : ℕ
  pub locals : List Written
  pub blocks : List Block

abbrev pub body_read_seen : ItemTable → ℕ → Body → BodyRead
body_read_seen items n body = record { name = body_name items n; params = body.params; locals = map (type_text items) body.locals; blocks = body.blocks }

module _ (adt_no trait_no : List ℕ → ℕ) where
  abbrev with_locals : List ℕ → ℕ → List Written × List ℕ → FoundInText BodyRead
  with_locals name params q =
      Some (record { name = name; params = params; locals = q.0; blocks = (many (block_read adt_no trait_no) q.1).0 }, (many (block_read adt_no trait_no) q.1).1)

  abbrev with_params : List ℕ → FoundInText ℕ → FoundInText BodyRead
  with_params name f = bind f (λ p. with_locals name p.0 (many local_read p.1))

  abbrev with_name : List ℕ × List ℕ → FoundInText BodyRead
  with_name q = bind (strip (codes " ") q.1) (λ t. with_params q.0 (ended (number t)))

  abbrev body_from : List ℕ × List ℕ → FoundInText BodyRead
  body_from q = bind (strip (codes " ") q.1) (λ t. with_name (span stands_in_names t))

  abbrev pub body_read : List ℕ → FoundInText BodyRead
  body_read t = bind (strip (codes "body ") t) (λ t. body_from (span is_digit t))

  module _ (items : ItemTable) (names : AreNamed items)
      (adts : (n : ℕ) → nat_lt n (length items.adts) ≡ true → (list_all stands_in_names (adt_name items n) ≡ true) × (adt_no (adt_name items n) ≡ n))
      (traits : (n : ℕ) → nat_lt n (length items.traits) ≡ true → (list_all stands_in_names (trait_name items n) ≡ true) × (trait_no (trait_name items n) ≡ n)) where
    pub record GoodBody (n : ℕ) (body : Body) : Type 0 where
      pub name : list_all stands_in_names (body_name items n) ≡ true
      pub params : Fits body.params
      pub locals : Every (λ id. ty_exists items id ≡ true) body.locals
      pub blocks : Every (GoodBlock adt_no trait_no items adts traits) body.blocks

    -- what stands behind a body: another one, or the end
    abbrev IsBodyEnd : List ℕ → Type 0
    IsBodyEnd r = (local_read r ≡ None) × (block_read adt_no trait_no r ≡ None)

    body_reads : (n : ℕ) (body : Body) → GoodBody n body → (r : List ℕ) → IsBodyEnd r → body_read (whole_body_text items n body ++ r) ≡ Some (body_read_seen items n body, r)
    body_reads n body good r e =
        let blocks : List ℕ = counted (block_text items) 0 body.blocks in
        let locals : List ℕ = counted (local_line items) 0 body.locals in
        let at_blocks : List ℕ = blocks ++ r in
        let at_locals : List ℕ = locals ++ at_blocks in
        let at_params : List ℕ = codes " " ++ (decimal body.params ++ (10 ∷ at_locals)) in
        let at_name : List ℕ = codes " " ++ (body_name items n ++ at_params) in
        let own : List ℕ = line (codes "body " ++ decimal n ++ codes " " ++ body_name items n ++ codes " " ++ decimal body.params) in
        ap body_read (behind3 own locals blocks r)
        ∙ ap (λ (t : List ℕ). body_from (span is_digit t)) (behind6 (decimal n) (codes " ") (body_name items n) (codes " ") (decimal body.params) (10 ∷ []) at_locals)
        ∙ ap body_from (span_run is_digit (decimal n) at_name (any_decimal n) refl)
        ∙ ap with_name (span_run stands_in_names (body_name items n) at_params good.name refl)
        ∙ ap (λ (f : FoundInText ℕ). with_params (body_name items n) (ended f)) (number_of body.params (10 ∷ at_locals) good.params refl)
        ∙ ap (with_locals (body_name items n) body.params)
        (locals_read items names body.locals good.locals at_blocks (none_before local_read (block_text items) (λ n block t. refl) 0 body.blocks r e.0))
        ∙ ap (λ (q : List Block × List ℕ). Some (record { name = body_name items n; params = body.params; locals = map (type_text items) body.locals; blocks = q.0 }, q.1))
        (blocks_read adt_no trait_no items adts traits body.blocks good.blocks r e.1)

    body_some : (n : ℕ) (body : Body) → 0 < length (whole_body_text items n body)
    body_some n body = omega arith

    pub bodies_read : (bodies : List Body) → EveryFrom GoodBody 0 bodies → (r : List ℕ) → local_read r ≡ None → block_read adt_no trait_no r ≡ None → body_read r ≡ None
        → many body_read (counted (whole_body_text items) 0 bodies ++ r) ≡ (numbered (body_read_seen items) 0 bodies, r)
    bodies_read bodies good r no_local no_block stop =
        numbered_reads body_read (whole_body_text items) (body_read_seen items) GoodBody IsBodyEnd body_reads (λ n body good r. (refl, refl)) body_some 0 bodies r good (no_local, no_block) stop
