use Rattle.std.proofs.Common.{List, Option, Some, map, option_map, refl, string_bytes, subst, sym}
use Rattle.std.proofs.Common.{Global, String, Vec}
use Rattle.std.specs.Prelude.{Contains, MatchOption}
use Rattle.clap.specs.Words.{Text}
use Rattle.settings.specs.Site.{texts_in}
use Rattle.telegate.specs.AllowLists.{IsAllowListFault, WritesNone}
use Rattle.telegate.specs.declared.fault.Fault.TheVariants.{Address}
use Rattle.telegate.proofs.wishes.allow_list_in.Goals as goal

HasNone : Option (List Text) → Type 0
HasNone texts =
    MatchOption texts ⊥ (λ ts. (text : Text) × (Contains ts text × WritesNone text))

pub returns-in-Err-Address-clause-fault : goal.returns-in-Err-Address-clause-fault
unfolding HasNone
returns-in-Err-Address-clause-fault c =
    let told : IsAllowListFault (Some (map string_bytes c.as_slice.result.now)) Address =
    subst (IsAllowListFault (Some (map string_bytes c.as_slice.result.now)))
    c.in-Err-Address.field-0-is c.in-Err-Address.ensures.fault in
    let here : HasNone (Some (map string_bytes c.in-Some.addresses.items)) =
    subst (λ (items : List (String Global)). HasNone (Some (map string_bytes items)))
    c.as_slice.ensures.value told in (
      refl,
      subst (λ (allow : Option (Vec (String Global) Global)). HasNone (option_map texts_in allow))
          (sym c.in-Some.is) here,
    )
