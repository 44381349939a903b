use Rattle.std.proofs.Common.{◌≡◌, ◌++◌, ◌∷◌, [], List, map, drop, ap, sym, ◌∙◌, subst, arith}
use Rattle.std.proofs.lemmas.Option.{get_or_from_slice_get, slice_get_within}
use Rattle.pw_defs.specs.declared.netlist.Inst.{Inst}
use Rattle.module_rows.specs.declared.tables.InstRow.{InstRow}
use Rattle.module_rows.specs.declared.tables.Rows.{Rows}
use Rattle.module_rows.specs.Growth.{with_inst}
use Rattle.module_rows.specs.Sound.{IsInstRow}
use Rattle.module_rows.specs.View.{conn_of, draft_of, name_at}
use Rattle.module_rows.proofs.Additions.{Are, conn_rows_kept, conns_added, inst_is, inst_pushed, names_then_conns, on_err, terms_added}
use Rattle.module_rows.proofs.ExprLemmas.{grows_trans}
use Rattle.module_rows.proofs.TermLemmas.{extends_length, name_kept}
use Rattle.module_rows.proofs.tables.Rows.add_inst.Goals as goal

pub returns-in_err-kind-clause-rows : goal.returns-in_err-kind-clause-rows
returns-in_err-kind-clause-rows c = (terms_added c.args.self.now c.symbol.new.terms c.requires c.symbol.ensures.grown.grown).rows

pub returns-in_err-kind-clause-err : goal.returns-in_err-kind-clause-err
returns-in_err-kind-clause-err c =
    let r = c.args.self.now in
    let s : Rows = record r { terms = c.symbol.new.terms } in
    on_err c.from_residual.result (draft_of s ≡ draft_of r) (terms_added r c.symbol.new.terms c.requires c.symbol.ensures.grown.grown).draft

pub returns-in_err-name-clause-rows : goal.returns-in_err-name-clause-rows
returns-in_err-name-clause-rows c =
    let r = c.args.self.now in
    let grown = grows_trans r.terms c.symbol.new.terms c.symbol-2.new.terms c.symbol.ensures.grown.grown c.symbol-2.ensures.grown.grown in
    (terms_added r c.symbol-2.new.terms c.requires grown).rows

pub returns-in_err-name-clause-err : goal.returns-in_err-name-clause-err
returns-in_err-name-clause-err c =
    let r = c.args.self.now in
    let grown = grows_trans r.terms c.symbol.new.terms c.symbol-2.new.terms c.symbol.ensures.grown.grown c.symbol-2.ensures.grown.grown in
    let s : Rows = record r { terms = c.symbol-2.new.terms } in
    on_err c.from_residual-in_err-name.result (draft_of s ≡ draft_of r) (terms_added r c.symbol-2.new.terms c.requires grown).draft

pub put_conns-requires-clause-rows : goal.put_conns-requires-clause-rows
put_conns-requires-clause-rows c =
    let r = c.args.self.now in
    let grown = grows_trans r.terms c.symbol.new.terms c.symbol-2.new.terms c.symbol.ensures.grown.grown c.symbol-2.ensures.grown.grown in
    conn_rows_kept r.terms c.symbol-2.new.terms r.conns grown c.requires.conns

connected : (c : goal.After-from_residual-in_err-put_conns)
    → Are (record c.args.self.now { terms = c.put_conns.new.terms; conns = c.put_conns.new.rows }) (draft_of c.args.self.now)
connected c =
    let r = c.args.self.now in
    let first = c.symbol.new.terms in
    let second = c.symbol-2.new.terms in
    let has = names_then_conns r first second c.put_conns.new.terms c.put_conns.new.rows c.symbol.ensures.grown.grown c.symbol-2.ensures.grown.grown c.put_conns.ensures.grown in
    conns_added r c.put_conns.new.terms c.put_conns.new.rows c.requires has

pub returns-in_err-put_conns-clause-rows : goal.returns-in_err-put_conns-clause-rows
returns-in_err-put_conns-clause-rows c = (connected c).rows

pub returns-in_err-put_conns-clause-err : goal.returns-in_err-put_conns-clause-err
returns-in_err-put_conns-clause-err c =
    let r = c.args.self.now in
    let s : Rows = record r { terms = c.put_conns.new.terms; conns = c.put_conns.new.rows } in
    on_err c.from_residual-in_err-put_conns.result (draft_of s ≡ draft_of r) (connected c).draft

unchanged : (c : goal.After-from_residual-in_err-push)
    → Are (record c.args.self.now { terms = c.put_conns.new.terms; conns = c.put_conns.new.rows; insts = c.push.new.self }) (draft_of c.args.self.now)
unchanged c =
    let r = c.args.self.now in
    let first = c.symbol.new.terms in
    let second = c.symbol-2.new.terms in
    let has = names_then_conns r first second c.put_conns.new.terms c.put_conns.new.rows c.symbol.ensures.grown.grown c.symbol-2.ensures.grown.grown c.put_conns.ensures.grown in
    let P : List InstRow → Type 0 = λ xs. Are (record r { terms = c.put_conns.new.terms; conns = c.put_conns.new.rows; insts = xs }) (draft_of r) in
    subst P (sym c.in_err-push.ensures.err) (conns_added r c.put_conns.new.terms c.put_conns.new.rows c.requires has)

pub returns-in_err-push-clause-rows : goal.returns-in_err-push-clause-rows
returns-in_err-push-clause-rows c = (unchanged c).rows

pub returns-in_err-push-clause-err : goal.returns-in_err-push-clause-err
returns-in_err-push-clause-err c =
    let r = c.args.self.now in
    let s : Rows = record r { terms = c.put_conns.new.terms; conns = c.put_conns.new.rows; insts = c.push.new.self } in
    on_err c.from_residual-in_err-push.result (draft_of s ≡ draft_of r) (unchanged c).draft

added : (c : goal.In_ok-push)
    → Are (record c.args.self.now { terms = c.put_conns.new.terms; conns = c.put_conns.new.rows; insts = c.push.new.self })
    (with_inst (draft_of c.args.self.now) c.args.inst.now)
added c =
    let r = c.args.self.now in
    let inst = c.args.inst.now in
    let first = c.symbol.new.terms in
    let second = c.symbol-2.new.terms in
    let terms = c.put_conns.new.terms in
    let conns = c.put_conns.new.rows in
    let has = names_then_conns r first second terms conns c.symbol.ensures.grown.grown c.symbol-2.ensures.grown.grown c.put_conns.ensures.grown in
    let later = c.put_conns.ensures.grown.grown in
    let mid : Rows = record r { terms = terms; conns = conns } in
    let kind = c.in_ok-kind.kind in
    let name = c.in_ok-name.name in
    let row : InstRow = record { kind = kind; name = name; line = inst.line; conns_first = c.len-conns_first.result; conns_end = c.len-conns_end.result } in
    let grows = grows_trans first second terms c.symbol-2.ensures.grown.grown later in
    let kind_there = slice_get_within first.symbols kind c.as_slice.result.now c.in_ok-kind.ensures.named in
    let name_there = slice_get_within second.symbols name c.as_slice-2.result.now c.in_ok-name.ensures.named in
    let fits : IsInstRow terms conns row = record {
      kind = omega (arith, kind_there, extends_length first.symbols terms.symbols grows.symbols);
      name = omega (arith, name_there, extends_length second.symbols terms.symbols later.symbols);
      first = omega (arith, c.len-conns_first.ensures, c.len-conns_end.ensures, extends_length r.conns conns has.more);
      end = omega (arith, c.len-conns_end.ensures);
    } in
    let are = inst_pushed mid (draft_of r) row (conns_added r terms conns c.requires has) fits in
    let kinds : name_at terms.symbols kind ≡ inst.kind =
    name_kept first.symbols terms.symbols grows.symbols kind kind_there
    ∙ get_or_from_slice_get first.symbols kind c.as_slice.result.now [] c.in_ok-kind.ensures.named ∙ c.as_slice.ensures.bytes in
    let names : name_at terms.symbols name ≡ inst.name =
    name_kept second.symbols terms.symbols later.symbols name name_there
    ∙ get_or_from_slice_get second.symbols name c.as_slice-2.result.now [] c.in_ok-name.ensures.named ∙ c.as_slice-2.ensures.bytes in
    let all : map (conn_of terms) (drop row.conns_first conns) ≡ inst.conns =
    ap (λ n. map (conn_of terms) (drop n conns)) c.len-conns_first.ensures ∙ c.in_ok-put_conns.ensures.ok ∙ c.as_slice-3.ensures.items in
    let is = inst_is terms conns row inst.kind inst.name inst.conns kinds names c.len-conns_end.ensures all in
    let P : List InstRow → Type 0 = λ xs. Are (record r { terms = terms; conns = conns; insts = xs }) (with_inst (draft_of r) inst) in
    let Q : Inst → Type 0 = λ i. Are (record mid { insts = r.insts ++ row ∷ [] }) (with_inst (draft_of r) i) in
    subst P (sym c.in_ok-push.ensures.ok) (subst Q is are)

pub returns-clause-rows : goal.returns-clause-rows
returns-clause-rows c = (added c).rows

pub returns-clause-ok : goal.returns-clause-ok
returns-clause-ok c = (added c).draft
