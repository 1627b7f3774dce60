-- What reading a message from a client by its kind, or by its tag, answers.
use Rattle.std.specs.Prelude.{◌≡◌, ◌≢◌, ℕ, List, Result, Ok, Err, MatchResult, ◌⊎◌}
use Rattle.std.specs.Borrow.{Bor}
use Rattle.pg_base.specs.declared.format.FrontendMessageFormat.{FrontendMessageFormat}
use Rattle.pg_base.specs.declared.format.FrontendMessageFormat.TheVariants as formats
use Rattle.pg_base.specs.Format.{frontend_tag}
use Rattle.pg_format.specs.Format.{Format}
use Rattle.pg_format.specs.Messages as page
use Rattle.pg_server.specs.declared.frontend.error.FrontendFault.{FrontendFault}
use Rattle.pg_server.specs.declared.frontend.error.FrontendFault.TheVariants.{UnknownTag}
use Rattle.pg_server.specs.declared.frontend.frontend_message_ref.FrontendMessageRef.{FrontendMessageRef}
use Rattle.pg_server.specs.declared.frontend.frontend_message_ref.FrontendMessageRef.TheVariants as messages
use Rattle.pg_server.specs.Frontend.Page.{shown_bind, shown_execute, shown_call, shown_parse, shown_targeted}
use Rattle.pg_server.specs.Frontend.Message.{ReadsBody}

abbrev pub Answer : Type 0
Answer = Result FrontendMessageRef FrontendFault

-- the body is read by its format to a value of this case, or has a fault
pub record Reads {A V : Type 0} (case : A → FrontendMessageRef) (format : Format V) (shown : A → V) (body : List ℕ) (result : Answer) : Type 0 where
  pub answer : Result A FrontendFault
  pub reads : ReadsBody format shown body answer
  pub is : MatchResult answer (λ value. result ≡ Ok (case value)) (λ fault. result ≡ Err fault)

-- the same of a text, and of no body
abbrev pub ReadsText : (Bor (List ℕ) → FrontendMessageRef) → List ℕ → Answer → Type 0
ReadsText case body result = Reads case page.text (λ text. text.now) body result

abbrev pub ReadsEmpty : FrontendMessageRef → List ℕ → Answer → Type 0
ReadsEmpty case body result = Reads {A = Unit {0}} (λ _. case) page.empty (λ _. tt) body result

-- the body is given as it is
pub record Gives (case : Bor (List ℕ) → FrontendMessageRef) (body : List ℕ) (result : Answer) : Type 0 where
  pub given : Bor (List ℕ)
  pub whole : given.now ≡ body
  pub is : result ≡ Ok (case given)

-- what reading the body of a message of this kind answers
abbrev pub ReadsKind : FrontendMessageFormat → List ℕ → Answer → Type 0
ReadsKind formats.Bind body result = Reads messages.Bind page.bind shown_bind body result
ReadsKind formats.Close body result = Reads messages.Close page.targeted shown_targeted body result
ReadsKind formats.CopyData body result = Gives messages.CopyData body result
ReadsKind formats.CopyDone body result = ReadsEmpty messages.CopyDone body result
ReadsKind formats.CopyFail body result = ReadsText messages.CopyFail body result
ReadsKind formats.Describe body result = Reads messages.Describe page.targeted shown_targeted body result
ReadsKind formats.Execute body result = Reads messages.Execute page.execute shown_execute body result
ReadsKind formats.Flush body result = ReadsEmpty messages.Flush body result
ReadsKind formats.FunctionCall body result = Reads messages.FunctionCall page.function_call shown_call body result
ReadsKind formats.Parse body result = Reads messages.Parse page.parse shown_parse body result
ReadsKind formats.PasswordPolymorphic body result = Gives messages.PasswordPolymorphic body result
ReadsKind formats.Query body result = ReadsText messages.Query body result
ReadsKind formats.Sync body result = ReadsEmpty messages.Sync body result
ReadsKind formats.Terminate body result = ReadsEmpty messages.Terminate body result

-- the kind that has the tag, and what is read as it
pub record ReadsKnown (tag : ℕ) (body : List ℕ) (result : Answer) : Type 0 where
  pub format : FrontendMessageFormat
  pub tagged : frontend_tag format ≡ tag
  pub reads : ReadsKind format body result

-- no kind has the tag
pub record IsUnknown (tag : ℕ) (result : Answer) : Type 0 where
  pub none : (format : FrontendMessageFormat) → frontend_tag format ≢ tag
  pub is : result ≡ Err (UnknownTag tag)

abbrev pub ReadsTagged : ℕ → List ℕ → Answer → Type 0
ReadsTagged tag body result = ReadsKnown tag body result ⊎ IsUnknown tag result
