-- What a part of a message stands for, by the tables of the documentation's "Message Formats": methods of
-- authentication, letters, and numbers whose 0 is of none.
use Rattle.std.specs.Prelude.{ℕ, zero, ◌==◌, ◌||◌, Bool, ℤ, pos, List, Option, Some, None, if◌then◌else◌}

-- AuthenticationOk (B) and the requests after it: the number of a method, and what it asks
pub data Authentication : Type 0 where
  ok : Authentication
  cleartext_password : Authentication
  md5_password : List ℕ → Authentication
  sasl : List (List ℕ) → Authentication
  sasl_continue : List ℕ → Authentication
  sasl_final : List ℕ → Authentication

abbrev pub method_number : Authentication → ℕ
method_number ok = 0
method_number cleartext_password = 3
method_number (md5_password salt) = 5
method_number (sasl mechanisms) = 10
method_number (sasl_continue message) = 11
method_number (sasl_final message) = 12

abbrev pub salt_of : Authentication → Option (List ℕ)
salt_of (md5_password salt) = Some salt
salt_of other = None

abbrev pub mechanisms_of : Authentication → Option (List (List ℕ))
mechanisms_of (sasl names) = Some names
mechanisms_of other = None

abbrev pub continued : Authentication → Option (List ℕ)
continued (sasl_continue message) = Some message
continued other = None

abbrev pub finished : Authentication → Option (List ℕ)
finished (sasl_final message) = Some message
finished other = None

-- whether one of these methods has the number
abbrev pub is_asked_by : ℕ → Bool
is_asked_by method = (method == 0) || ((method == 3) || ((method == 5) || ((method == 10) || ((method == 11) || (method == 12)))))

-- AuthenticationKerberosV5 (B), AuthenticationSCMCredential (B), AuthenticationGSS (B), AuthenticationGSSContinue (B) and
-- AuthenticationSSPI (B), beside those above; and any other method by its number, with what follows that
pub data AnyAuthentication : Type 0 where
  known_method : Authentication → AnyAuthentication
  kerberos_v5 : AnyAuthentication
  scm_credential : AnyAuthentication
  gss : AnyAuthentication
  gss_continue : List ℕ → AnyAuthentication
  sspi : AnyAuthentication
  other_method : ℕ → List ℕ → AnyAuthentication

abbrev pub any_method_number : AnyAuthentication → ℕ
any_method_number (known_method request) = method_number request
any_method_number kerberos_v5 = 2
any_method_number scm_credential = 6
any_method_number gss = 7
any_method_number (gss_continue content) = 8
any_method_number sspi = 9
any_method_number (other_method method content) = method

abbrev pub known_of : AnyAuthentication → Option Authentication
known_of (known_method request) = Some request
known_of request = None

abbrev pub gss_continued : AnyAuthentication → Option (List ℕ)
gss_continued (gss_continue content) = Some content
gss_continued request = None

abbrev pub content_of : AnyAuthentication → Option (List ℕ)
content_of (other_method method content) = Some content
content_of request = None

-- Close (F) and Describe (F)
pub data Target : Type 0 where
  statement : Target
  portal : Target

abbrev pub target_of : ℕ → Option Target
target_of letter = if letter == 83 then Some statement else (if letter == 80 then Some portal else None)

abbrev pub target_letter : Target → ℕ
target_letter statement = 83
target_letter portal = 80

-- ReadyForQuery (B)
pub data Status : Type 0 where
  idle : Status
  transaction : Status
  error : Status

abbrev pub status_of : ℕ → Option Status
status_of letter = if letter == 73 then Some idle else (if letter == 84 then Some transaction else (if letter == 69 then Some error else None))

abbrev pub status_letter : Status → ℕ
status_letter idle = 73
status_letter transaction = 84
status_letter error = 69

-- RowDescription (B): 0 is the number of no table, and of no attribute of one
abbrev pub table : ℕ → Option ℕ
table n = if n == 0 then None else Some n

abbrev pub table_number : Option ℕ → ℕ
table_number None = 0
table_number (Some n) = n

abbrev pub attribute : ℤ → Option ℤ
attribute (pos zero) = None
attribute other = Some other

abbrev pub attribute_number : Option ℤ → ℤ
attribute_number None = pos 0
attribute_number (Some z) = z
