-- The standard's names (IEC 60870-5-101, 7.2.1 and 7.2.3; IEC 60870-5-104, 8): the types of ASDU,
-- and the causes of transmission.
use Rattle.std.specs.Prelude.{ℕ, ◌==◌, nat_lt, if◌then◌else◌, codes, List, [], ◌∷◌, Option, find}
use Rattle.std.specs.Option.{option_map}

-- a number and its name
pub record Name : Type 0 where
  pub number : ℕ
  pub text : List ℕ

abbrev pub name : ℕ → List ℕ → Name
name number text = record { number = number; text = text }

-- the name of a number, if the table has one
abbrev pub name_in : List Name → ℕ → Option (List ℕ)
name_in names number = option_map (λ n. n.text) (find (λ n. n.number == number) names)

-- the type identifications (7.2.1): process information in monitor direction, and all others
abbrev pub report_names : List Name
report_names =
    name 1 (codes "M_SP_NA_1")
    ∷ name 2 (codes "M_SP_TA_1")
    ∷ name 3 (codes "M_DP_NA_1")
    ∷ name 4 (codes "M_DP_TA_1")
    ∷ name 5 (codes "M_ST_NA_1")
    ∷ name 6 (codes "M_ST_TA_1")
    ∷ name 7 (codes "M_BO_NA_1")
    ∷ name 8 (codes "M_BO_TA_1")
    ∷ name 9 (codes "M_ME_NA_1")
    ∷ name 10 (codes "M_ME_TA_1")
    ∷ name 11 (codes "M_ME_NB_1")
    ∷ name 12 (codes "M_ME_TB_1")
    ∷ name 13 (codes "M_ME_NC_1")
    ∷ name 14 (codes "M_ME_TC_1")
    ∷ name 15 (codes "M_IT_NA_1")
    ∷ name 16 (codes "M_IT_TA_1")
    ∷ name 17 (codes "M_EP_TA_1")
    ∷ name 18 (codes "M_EP_TB_1")
    ∷ name 19 (codes "M_EP_TC_1")
    ∷ name 20 (codes "M_PS_NA_1")
    ∷ name 21 (codes "M_ME_ND_1")
    ∷ name 30 (codes "M_SP_TB_1")
    ∷ name 31 (codes "M_DP_TB_1")
    ∷ name 32 (codes "M_ST_TB_1")
    ∷ name 33 (codes "M_BO_TB_1")
    ∷ name 34 (codes "M_ME_TD_1")
    ∷ name 35 (codes "M_ME_TE_1")
    ∷ name 36 (codes "M_ME_TF_1")
    ∷ name 37 (codes "M_IT_TB_1")
    ∷ name 38 (codes "M_EP_TD_1")
    ∷ name 39 (codes "M_EP_TE_1")
    ∷ name 40 (codes "M_EP_TF_1")
    ∷ []

abbrev pub other_names : List Name
other_names =
    name 45 (codes "C_SC_NA_1")
    ∷ name 46 (codes "C_DC_NA_1")
    ∷ name 47 (codes "C_RC_NA_1")
    ∷ name 48 (codes "C_SE_NA_1")
    ∷ name 49 (codes "C_SE_NB_1")
    ∷ name 50 (codes "C_SE_NC_1")
    ∷ name 51 (codes "C_BO_NA_1")
    ∷ name 58 (codes "C_SC_TA_1")
    ∷ name 59 (codes "C_DC_TA_1")
    ∷ name 60 (codes "C_RC_TA_1")
    ∷ name 61 (codes "C_SE_TA_1")
    ∷ name 62 (codes "C_SE_TB_1")
    ∷ name 63 (codes "C_SE_TC_1")
    ∷ name 64 (codes "C_BO_TA_1")
    ∷ name 70 (codes "M_EI_NA_1")
    ∷ name 100 (codes "C_IC_NA_1")
    ∷ name 101 (codes "C_CI_NA_1")
    ∷ name 102 (codes "C_RD_NA_1")
    ∷ name 103 (codes "C_CS_NA_1")
    ∷ name 104 (codes "C_TS_NA_1")
    ∷ name 105 (codes "C_RP_NA_1")
    ∷ name 106 (codes "C_CD_NA_1")
    ∷ name 107 (codes "C_TS_TA_1")
    ∷ name 110 (codes "P_ME_NA_1")
    ∷ name 111 (codes "P_ME_NB_1")
    ∷ name 112 (codes "P_ME_NC_1")
    ∷ name 113 (codes "P_AC_NA_1")
    ∷ name 120 (codes "F_FR_NA_1")
    ∷ name 121 (codes "F_SR_NA_1")
    ∷ name 122 (codes "F_SC_NA_1")
    ∷ name 123 (codes "F_LS_NA_1")
    ∷ name 124 (codes "F_AF_NA_1")
    ∷ name 125 (codes "F_SG_NA_1")
    ∷ name 126 (codes "F_DR_TA_1")
    ∷ name 127 (codes "F_SC_NB_1")
    ∷ []

-- the causes of transmission (7.2.3)
abbrev pub cause_names : List Name
cause_names =
    name 1 (codes "periodic")
    ∷ name 2 (codes "background scan")
    ∷ name 3 (codes "spontaneous")
    ∷ name 4 (codes "initialised")
    ∷ name 5 (codes "requested")
    ∷ name 6 (codes "activation")
    ∷ name 7 (codes "activation con")
    ∷ name 8 (codes "deactivation")
    ∷ name 9 (codes "deactivation con")
    ∷ name 10 (codes "activation term")
    ∷ name 11 (codes "return by remote command")
    ∷ name 12 (codes "return by local command")
    ∷ name 13 (codes "file transfer")
    ∷ name 20 (codes "station interrogation")
    ∷ name 21 (codes "group 1 interrogation")
    ∷ name 22 (codes "group 2 interrogation")
    ∷ name 23 (codes "group 3 interrogation")
    ∷ name 24 (codes "group 4 interrogation")
    ∷ name 25 (codes "group 5 interrogation")
    ∷ name 26 (codes "group 6 interrogation")
    ∷ name 27 (codes "group 7 interrogation")
    ∷ name 28 (codes "group 8 interrogation")
    ∷ name 29 (codes "group 9 interrogation")
    ∷ name 30 (codes "group 10 interrogation")
    ∷ name 31 (codes "group 11 interrogation")
    ∷ name 32 (codes "group 12 interrogation")
    ∷ name 33 (codes "group 13 interrogation")
    ∷ name 34 (codes "group 14 interrogation")
    ∷ name 35 (codes "group 15 interrogation")
    ∷ name 36 (codes "group 16 interrogation")
    ∷ name 37 (codes "general counter request")
    ∷ name 38 (codes "group 1 counter request")
    ∷ name 39 (codes "group 2 counter request")
    ∷ name 40 (codes "group 3 counter request")
    ∷ name 41 (codes "group 4 counter request")
    ∷ name 44 (codes "unknown type")
    ∷ name 45 (codes "unknown cause")
    ∷ name 46 (codes "unknown common address")
    ∷ name 47 (codes "unknown object address")
    ∷ []

unfoldable pub report_name : ℕ → Option (List ℕ)
report_name number = name_in report_names number

unfoldable pub other_name : ℕ → Option (List ℕ)
other_name number = name_in other_names number

-- The name of a type: those of process information in monitor direction are below 45 (7.2.1.1).
abbrev pub type_name : ℕ → Option (List ℕ)
type_name number = if nat_lt number 45 then report_name number else other_name number

-- the name of a cause
unfoldable pub cause_name : ℕ → Option (List ℕ)
cause_name number = name_in cause_names number
