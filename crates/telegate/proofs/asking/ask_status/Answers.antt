use Rattle.std.proofs.Common.{List, ℕ, Bool, inl, subst, sym}
use Rattle.telegate.specs.Asking.{IsPage, ShowsBy, ShowsPage}
use Rattle.telegate.proofs.asking.ask_status.Goals as goal

pub returns-then-json : goal.returns-then-json
returns-then-json g c =
    let answered = g.H.Host.answered c.args.host.now in
    let silent = g.H.Host.silent c.args.host.now in
    let place = c.args.place.now in
    let table = c.in-Some.table.now in
    let old = g.W.Write.contents c.args.out.now in
    let new = g.W.Write.contents c.ask_json.new.out in
    let read = c.in-Some.ensures.page in
    inl (record {
      table = table;
      page = record {
        answer = c.in-Ok.answer.items;
        is = c.in-Ok.ensures.answer;
        page = subst (λ (xs : List ℕ). IsPage xs table) c.as_slice.ensures.value
            (record { head = read.0; read = read.1; shown = read.2 });
      };
      shown =
          subst (λ (json : Bool). ShowsBy answered silent place json table old new
          c.ask_json.result)
          (sym c.if-json.true)
          (subst (λ (status : ℕ). ShowsPage answered silent place status old new c.ask_json.result)
          c.exit_status-status.ensures c.ask_json.ensures);
    })
