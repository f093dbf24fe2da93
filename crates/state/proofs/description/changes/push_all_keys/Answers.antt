use Rattle.std.proofs.Common.{◌≡◌, List, ℕ, ◌++◌, ap, string_bytes}
use Rattle.std.proofs.lemmas.Result.{IfOk-equal}
use Rattle.gateway.specs.declared.settings.LineSettings.{LineSettings}
use Rattle.gateway.specs.declared.settings.TcpSettings.{TcpSettings}
use Rattle.state.specs.ChangedSettings.{key_lines}
use Rattle.state.proofs.description.changes.push_all_keys.Goals as goal

same : (f : LineSettings → LineSettings → TcpSettings → TcpSettings → List ℕ)
    (a b k l : LineSettings) (t u v w : TcpSettings) → a ≡ k → b ≡ l → t ≡ v → u ≡ w
    → f a b t u ≡ f k l v w
same f a b k l t u v w p q r s = cc

pub returns : goal.returns
returns c = IfOk-equal c.push_keys.result _ _ _ c.push_keys.ensures
    (ap (λ ls. string_bytes c.args.text.now ++ ls)
    (same key_lines _ _ _ _ _ _ _ _ c.line.ensures c.line-2.ensures c.tcp.ensures
    c.tcp-2.ensures))
