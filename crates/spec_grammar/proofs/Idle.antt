-- A machine that goes by the marks, where those of an expression, of statements or of declarations do not move it: then these do not. By induction over the
-- tree. Assumes nothing.
use mathlib.Core.Path.{◌≡◌, refl, ◌∙◌}
use mathlib.Core.List.{List, [], ◌∷◌}
use Rattle.spec_grammar.specs.Token.{Token}
use Rattle.spec_grammar.specs.Tree.{Expr, number, bit, name, sign, negate, binary, parens, Stmt, output, assign, null, wait, if_then, if_else, while}
use Rattle.spec_grammar.specs.Tree.{Body, only, and_then, Init, without, integer_literal, logic_literal, minus, Mode, input, output_port, variable_mode}
use Rattle.spec_grammar.specs.Tree.{Group, Text}
use Rattle.spec_grammar.specs.Grammar.{Mark, plain, item, opens, closes, fresh, stmt, stmt_fresh, deeper, shallower, declares, ins, outs, variables}
use Rattle.spec_grammar.proofs.Walk.{port_mark, on_expr, on_stmt, on_body, on_more_names, on_names, on_mode, on_init, on_port, on_more_ports, on_ports, on_vars}
use Rattle.spec_grammar.proofs.Walk.{on_text}
use Rattle.spec_grammar.proofs.Along.{by_marks}

module _ {C : Type 0} (act : Mark → C → C) where
  abbrev pub Idle : Mark → Type 0
  Idle m = (c : C) → act m c ≡ c

  module _ (it : Idle item) (op : Idle opens) (cl : Idle closes) where
    pub expr_idle : (e : Expr) (c : C) → on_expr (by_marks act) e c ≡ c
    unfolding on_expr
    expr_idle (number x) c = it c
    expr_idle (bit x) c = it c
    expr_idle (name x) c = it c
    expr_idle (sign x a) c = expr_idle a (act item c) ∙ it c
    expr_idle (negate x a) c = expr_idle a (act item c) ∙ it c
    expr_idle (binary x a b) c = expr_idle b (act item (on_expr (by_marks act) a c)) ∙ (it (on_expr (by_marks act) a c) ∙ expr_idle a c)
    expr_idle (parens a) c = cl (on_expr (by_marks act) a (act opens c)) ∙ (expr_idle a (act opens c) ∙ op c)

  -- nor do statements, if no mark of theirs does
  module _ (it : Idle item) (op : Idle opens) (cl : Idle closes) (pl : Idle plain) (fr : Idle fresh) (st : Idle stmt) (sf : Idle stmt_fresh) (de : Idle deeper)
      (sh : Idle shallower) where
    same : (e : Expr) (c : C) → on_expr (by_marks act) e c ≡ c
    same e c = expr_idle it op cl e c

    mutual
      unfolding on_stmt

      stmt_idle : (s : Stmt) (c : C) → on_stmt (by_marks act) s c ≡ c
      stmt_idle (output x e) c = simp (pl, fr, st, same)
      stmt_idle (assign x e) c = simp (pl, fr, st, same)
      stmt_idle null c = simp (pl, st)
      stmt_idle (wait x) c = simp (pl, st)
      stmt_idle (if_then i e a) c = let h : (d : C) → on_body (by_marks act) a d ≡ d = λ d. body_idle a d in simp (pl, sh, h, de, same, sf)
      stmt_idle (if_else i e a b) c =
          let h : (d : C) → on_body (by_marks act) a d ≡ d = λ d. body_idle a d in
          let k : (d : C) → on_body (by_marks act) b d ≡ d = λ d. body_idle b d in
          simp (pl, sh, h, k, de, same, sf)
      stmt_idle (while w e a) c = let h : (d : C) → on_body (by_marks act) a d ≡ d = λ d. body_idle a d in simp (pl, sh, h, de, same, sf)

      pub body_idle : (b : Body) (c : C) → on_body (by_marks act) b c ≡ c
      body_idle (only s) c = stmt_idle s c
      body_idle (and_then s b) c = body_idle b (on_stmt (by_marks act) s c) ∙ stmt_idle s c

  -- nor do names with the mark m, nor an initial value
  module _ (pl : Idle plain) where
    more_idle : (m : Mark) → Idle m → (l : List Token) (c : C) → on_more_names (by_marks act) m l c ≡ c
    unfolding on_more_names
    more_idle m i [] c = refl
    more_idle m i (x ∷ l) c = more_idle m i l (act m (act plain c)) ∙ (i (act plain c) ∙ pl c)

    pub names_idle : (m : Mark) → Idle m → (l : List Token) (c : C) → on_names (by_marks act) m l c ≡ c
    unfolding on_names
    names_idle m i [] c = refl
    names_idle m i (x ∷ l) c = more_idle m i l (act m c) ∙ i c

    pub init_idle : (i : Init) (c : C) → on_init (by_marks act) i c ≡ c
    unfolding on_init
    init_idle without c = refl
    init_idle (integer_literal x) c = pl (act plain c) ∙ pl c
    init_idle (logic_literal x) c = pl (act plain c) ∙ pl c
    init_idle (minus s x) c = pl (act plain (act plain c)) ∙ (pl (act plain c) ∙ pl c)

    -- nor do declarations
    module _ (de : Idle declares) (in-idle : Idle ins) (out-idle : Idle outs) (va : Idle variables) where
      mark_idle : (m : Mode) → Idle (port_mark m)
      mark_idle input = de
      mark_idle output_port = de
      mark_idle variable_mode = pl

      mode_idle : (m : Mode) (c : C) → on_mode (by_marks act) m c ≡ c
      unfolding on_mode
      mode_idle input c = in-idle c
      mode_idle output_port c = out-idle c
      mode_idle variable_mode c = refl

      port_idle : (g : Group) (c : C) → on_port (by_marks act) g c ≡ c
      unfolding on_port
      port_idle g c = simp (init_idle, pl, mode_idle, names_idle (port_mark g.mode) (mark_idle g.mode))

      more_ports_idle : (gs : List Group) (c : C) → on_more_ports (by_marks act) gs c ≡ c
      unfolding on_more_ports
      more_ports_idle [] c = refl
      more_ports_idle (g ∷ gs) c = more_ports_idle gs (on_port (by_marks act) g (act plain c)) ∙ (port_idle g (act plain c) ∙ pl c)

      ports_idle : (gs : List Group) (c : C) → on_ports (by_marks act) gs c ≡ c
      unfolding on_ports
      ports_idle [] c = refl
      ports_idle (g ∷ gs) c = more_ports_idle gs (on_port (by_marks act) g c) ∙ port_idle g c

      vars_idle : (gs : List Group) (c : C) → on_vars (by_marks act) gs c ≡ c
      unfolding on_vars
      vars_idle [] c = refl
      vars_idle (g ∷ gs) c = vars_idle gs _ ∙ simp (init_idle, pl, va, names_idle declares de)

      -- so of a text only the statements count
      pub text_body : (t : Text) (c : C) → on_text (by_marks act) t c ≡ on_body (by_marks act) t.body c
      unfolding on_text
      text_body t c = simp (pl, vars_idle, ports_idle)
