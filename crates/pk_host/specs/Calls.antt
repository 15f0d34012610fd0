-- The calls of a host: the one command of each, and what it makes of the reply.
use Rattle.std.specs.Prelude.{◌≡◌, ℕ, List, [], length}
use Rattle.pk_base.{specs.Key.Key, specs.Key.bytes_of, specs.Key.space_of, specs.Fields.padded, specs.declared.sizes.TheConstants.KEY_BYTES}
use Rattle.pk_nvme.specs.declared.opcode.TheConstants.{STORE, RETRIEVE, DELETE, EXIST, REPORT}
use Rattle.pk_nvme.{specs.declared.options.TheConstants.IF_EXISTS, specs.declared.options.TheConstants.IF_ABSENT, specs.declared.limits.TheConstants.NAMESPACE, specs.Command.Command}
use Rattle.pk_host.specs.declared.types.StoreRule.{StoreRule}
use Rattle.pk_host.specs.declared.types.StoreRule.TheVariants.{Any, IfExists, IfAbsent}

-- ---- the commands

-- a key of the namespace in which commands are passed
abbrev pub IsOwnKey : Key → Type 0
IsOwnKey key = space_of key ≡ NAMESPACE

-- a command in the drive's namespace for these bytes of a key, with the CID 0
abbrev pub of_bytes : ℕ → List ℕ → ℕ → ℕ → List ℕ → Command
of_bytes opcode bytes size options value = record {
  opcode = opcode;
  cid = 0;
  namespace = NAMESPACE;
  key_len = length bytes;
  key_bytes = padded KEY_BYTES bytes;
  size = size;
  options = options;
  value = value;
}

-- the same for a key
abbrev pub of_key : ℕ → Key → ℕ → ℕ → List ℕ → Command
of_key opcode key size options value = of_bytes opcode (bytes_of key) size options value

-- the option bits of a Store by a rule
abbrev pub options_of : StoreRule → ℕ
options_of Any = 0
options_of IfExists = IF_EXISTS
options_of IfAbsent = IF_ABSENT

abbrev pub store_of : Key → List ℕ → StoreRule → Command
store_of key value rule = of_key STORE key (length value) (options_of rule) value

abbrev pub retrieve_of : Key → ℕ → Command
retrieve_of key size = of_key RETRIEVE key size 0 []

abbrev pub delete_of : Key → Command
delete_of key = of_key DELETE key 0 0 []

abbrev pub exist_of : Key → Command
exist_of key = of_key EXIST key 0 0 []

abbrev pub report : Command
report = of_key REPORT [] 0 0 []

-- ---- what a call makes of a reply

-- ---- what an answer says of the map

-- ---- the commands of a call
