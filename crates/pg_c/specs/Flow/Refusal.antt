-- Why a message can't be said or can't come now, as a number and in words.
use Rattle.std.specs.Prelude.{ℤ, negsuc}
use Rattle.pg_flow.specs.Fault.{fault_words}
use Rattle.pg_flow.specs.declared.fault.Fault.{Fault}
use Rattle.pg_flow.specs.declared.fault.Fault.TheVariants as faults
use Rattle.pg_c.specs.Refusal.{IsReportOf}
use Rattle.pg_c.specs.declared.refusal.PgmsgFault.{PgmsgFault}

-- as in the header
abbrev pub flow_number : Fault → ℤ
flow_number faults.Unknown = negsuc 7
flow_number faults.NotReady = negsuc 30
flow_number faults.AfterEnd = negsuc 31
flow_number faults.InCopy = negsuc 32
flow_number faults.NotInCopy = negsuc 33
flow_number faults.NotRefusable = negsuc 34
flow_number faults.Unasked = negsuc 35
flow_number faults.Busy = negsuc 36
flow_number faults.NotAnAnswer = negsuc 37
flow_number faults.BehindCopy = negsuc 38
flow_number faults.SyncFirst = negsuc 39
flow_number faults.Full = negsuc 40

-- no fault names an offset
abbrev pub IsFlowReport : Fault → PgmsgFault → PgmsgFault → ℤ → Type 0
IsFlowReport fault = IsReportOf (flow_number fault) 0 (fault_words fault)

-- a call refuses a message for a fault
pub record RefusesFlow (IsFault : Fault → Type 0) (old fault : PgmsgFault) (result : ℤ) : Type 0 where
  pub why : Fault
  pub is : IsFault why
  pub report : IsFlowReport why old fault result
