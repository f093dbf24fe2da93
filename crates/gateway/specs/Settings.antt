-- Which values settings can have (profile).
use Rattle.std.specs.Prelude.{ℕ, ◌+◌, ◌<◌, ◌≤◌, ◌^◌}
use Rattle.ft12.specs.declared.frame.LinkSize.{LinkSize}
use Rattle.ft12.specs.Spelling.{address_len}
use Rattle.asdu.specs.declared.sizes.CaSize.{CaSize}
use Rattle.asdu.specs.Sizes.{ca_len}

abbrev pub IsWithin : (least most n : ℕ) → Type 0
IsWithin least most n = (least ≤ n) × (n ≤ most)

-- neither 0 nor the broadcast address (IEC 60870-5-2, 3.3)
abbrev pub IsLinkAddress : LinkSize → ℕ → Type 0
IsLinkAddress size address = (1 ≤ address) × (address + 1 < 256 ^ address_len size)

-- neither 0 nor the global address (IEC 60870-5-101, 7.2.4)
abbrev pub IsCommonAddress : CaSize → ℕ → Type 0
IsCommonAddress size ca = (1 ≤ ca) × (ca + 1 < 256 ^ ca_len size)
