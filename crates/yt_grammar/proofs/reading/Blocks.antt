-- The law of reading blocks, by how many may stand in each other.
use Rattle.std.proofs.Common.{◌≡◌, ℕ, zero, suc, ◌≤◌, true, ◌&&◌, ◌||◌, nat_lt, List, [], ◌∷◌, ◌++◌, refl, ap, arith}
use Rattle.std.proofs.Math.Bool.{and-false}
use Rattle.yt_graph.specs.AstPicture.{AstStmtTree, AstBlockTree, no_stmts, more_stmts}
use Rattle.yt_graph.specs.AstWellFormed.{ast_block_depth}
use Rattle.yt_grammar.specs.declared.sign.Keyword.TheVariants as keys
use Rattle.yt_grammar.specs.declared.sign.Mark.TheVariants.{LeftBrace, RightBrace}
use Rattle.yt_grammar.specs.Lexemes.{Tok}
use Rattle.yt_grammar.specs.Forms.{Form, ◌▹◌, symbol, each, braces}
use Rattle.yt_grammar.specs.Grammar.{stmts_form, body_form}
use Rattle.yt_grammar.specs.Inside.Reading.{many, at_key, at_word, in_braces, at_stmt, stmt_reader, block_reader, block_of}
use Rattle.yt_grammar.proofs.reading.Lawful.{Lawful}
use Rattle.yt_grammar.proofs.reading.Heads.{LooksAhead, and_ahead, or_ahead, second_as, first_as}
use Rattle.yt_grammar.proofs.reading.Signs.{at_key_ahead, at_word_ahead}
use Rattle.yt_grammar.proofs.reading.Singles.{Any}
use Rattle.yt_grammar.proofs.reading.Sequences.{made_as, in_braces_lawful}
use Rattle.yt_grammar.proofs.reading.Choices.{Ends}
use Rattle.yt_grammar.proofs.reading.Repeats.{many_lawful}
use Rattle.yt_grammar.proofs.reading.Statements.{StmtIn, BlockIn, AfterStmt, from_let, stmt_back, stmt_lawful, room_and}

-- another form in braces
pub braces_as : (l m : Form) → ((w : List Tok) → l w → m w) → (w : List Tok) → braces l w → braces m w
braces_as l m h w c = second_as (symbol LeftBrace) (l ▹ symbol RightBrace) (m ▹ symbol RightBrace) (first_as l m (symbol RightBrace) h) w c

-- statements as a list
abbrev pub stmts_of : AstBlockTree → List AstStmtTree
stmts_of no_stmts = []
stmts_of (more_stmts s rest) = s ∷ stmts_of rest

-- a block is the one of its list
stmts_back : (b : AstBlockTree) → b ≡ block_of (stmts_of b)
stmts_back no_stmts = refl
stmts_back (more_stmts s rest) = ap (more_stmts s) (stmts_back rest)

-- statements as a list and as a block: how deep they are, and how they are spelled
depth_there : (n : ℕ) (ss : List AstStmtTree) (w : List Tok) → each (StmtIn n) ss w → ast_block_depth (block_of ss) ≤ n
depth_there n [] w c = omega arith
depth_there n (s ∷ ss) w c = let more : ast_block_depth (block_of ss) ≤ n = depth_there n ss c.1 c.4 in omega (arith, c.3.0)

-- their form, from the list
form_there : (n : ℕ) (ss : List AstStmtTree) (w : List Tok) → each (StmtIn n) ss w → stmts_form (block_of ss) w
form_there n [] w c = c
form_there n (s ∷ ss) w c = (c.0, c.1, c.2, c.3.1, form_there n ss c.1 c.4)

-- their form, from the block
form_back : (n : ℕ) (b : AstBlockTree) → ast_block_depth b ≤ n → (w : List Tok) → stmts_form b w → each (StmtIn n) (stmts_of b) w
form_back n no_stmts h w c = c
form_back n (more_stmts s rest) h w c = (c.0, c.1, c.2, (omega arith, c.3), form_back n rest (omega arith) c.1 c.4)

-- a block in braces, from its list
block_there : (n : ℕ) (ss : List AstStmtTree) (w : List Tok) → braces (each (StmtIn n) ss) w → BlockIn (suc n) (block_of ss) w
block_there n ss w c = (let inside : ast_block_depth (block_of ss) ≤ n = depth_there n ss c.4.0 c.4.3 in omega arith, braces_as (each (StmtIn n) ss) (stmts_form (block_of ss)) (form_there n ss) w c)

-- and back
block_back : (n : ℕ) (b : AstBlockTree) (w : List Tok) → BlockIn (suc n) b w → braces (each (StmtIn n) (stmts_of b)) w
block_back n b w c = braces_as (stmts_form b) (each (StmtIn n) (stmts_of b)) (form_back n b (omega (arith, c.0))) w c.1

-- where a statement begins
at_stmt_ahead : (n : ℕ) → LooksAhead (at_stmt n)
at_stmt_ahead n =
    or_ahead at_word (λ s. at_key keys.Let s || (at_key keys.Send s || (nat_lt 0 n && (at_key keys.If s || at_key keys.Repeat s)))) at_word_ahead
    (or_ahead (at_key keys.Let) (λ s. at_key keys.Send s || (nat_lt 0 n && (at_key keys.If s || at_key keys.Repeat s))) (at_key_ahead keys.Let)
    (or_ahead (at_key keys.Send) (λ s. nat_lt 0 n && (at_key keys.If s || at_key keys.Repeat s)) (at_key_ahead keys.Send)
    (and_ahead (nat_lt 0 n) (λ s. at_key keys.If s || at_key keys.Repeat s) (or_ahead (at_key keys.If) (at_key keys.Repeat) (at_key_ahead keys.If) (at_key_ahead keys.Repeat)))))

-- the test passes in front of each statement
stmt_begins : (n : ℕ) (s : AstStmtTree) (w rest : List Tok) → StmtIn n s w → at_stmt n (w ++ rest) ≡ true
stmt_begins n s w rest c =
    from_let (λ v. at_stmt n v ≡ true) n (λ p ts. refl) (λ p ts. refl) (λ p ts e. room_and (nat_lt 0 n) true e refl) (λ p ts e. room_and (nat_lt 0 n) true e refl) (λ bytes p ts. refl) s w rest (stmt_back n s w c)

-- a statement may follow a statement
stmt_joins : (n : ℕ) (s : AstStmtTree) (w rest : List Tok) → StmtIn n s w → AfterStmt (w ++ rest)
stmt_joins n s w rest c =
    from_let AfterStmt n
    (λ p ts. record { fails = refl; may = record { no_paren = refl; no_operator = tt } })
    (λ p ts. record { fails = refl; may = record { no_paren = refl; no_operator = tt } })
    (λ p ts e. record { fails = refl; may = record { no_paren = refl; no_operator = tt } })
    (λ p ts e. record { fails = refl; may = record { no_paren = refl; no_operator = tt } })
    (λ bytes p ts. record { fails = refl; may = record { no_paren = refl; no_operator = tt } })
    s w rest (stmt_back n s w c)

-- a block, of statements whose law is known
one_block : (n : ℕ) → Lawful (stmt_reader (block_reader n) n) (StmtIn n) AfterStmt → Lawful (block_reader (suc n)) (BlockIn (suc n)) Any
unfolding block_reader
one_block n stmts =
    made_as block_of (in_braces (many (at_stmt n) (stmt_reader (block_reader n) n))) (λ ss. braces (each (StmtIn n) ss)) Any
    (in_braces_lawful (many (at_stmt n) (stmt_reader (block_reader n) n)) (each (StmtIn n)) (Ends (at_stmt n) AfterStmt)
    (many_lawful (at_stmt n) (stmt_reader (block_reader n) n) (StmtIn n) AfterStmt (record {
      law = stmts;
      ahead = at_stmt_ahead n;
      at_end = and-false (nat_lt 0 n);
      begins = stmt_begins n;
      joins = stmt_joins n;
    }))
    (λ p ts. record { fails = and-false (nat_lt 0 n); may = record { fails = refl; may = record { no_paren = refl; no_operator = tt } } }))
    (BlockIn (suc n))
    (block_there n)
    (λ b w c. (stmts_of b, stmts_back b, block_back n b w c))

-- blocks, where there is room for one
pub blocks_lawful : (n : ℕ) → nat_lt 0 n ≡ true → Lawful (block_reader n) (BlockIn n) Any
blocks_lawful zero h = absurd cc
blocks_lawful (suc n) h = one_block n (stmt_lawful (block_reader n) n (blocks_lawful n))

-- the block of a handler
pub body_lawful : Lawful (block_reader 8) body_form Any
body_lawful = blocks_lawful 8 refl
