-- The names that C99 keeps for its library (7.1.3): those of functions and objects, of macros, and of types of any header.
use Rattle.std.specs.Prelude.{ℕ, ◌||◌, ◌&&◌, Bool, List, [], ◌∷◌, ◌++◌, length, map, codes, nat_eq, nat_le, bytes_eq, slice_index_or}
use Rattle.std.specs.List.{list_any, starts_with}
use Rattle.std.specs.Str.{byte}

-- ---- names that begin as those of the library

-- a small letter
abbrev pub is_small : ℕ → Bool
is_small b = nat_le (byte "a") b && nat_le b (byte "z")

-- a capital
abbrev pub is_capital : ℕ → Bool
is_capital b = nat_le (byte "A") b && nat_le b (byte "Z")

-- a capital or a digit
abbrev pub is_capital_or_digit : ℕ → Bool
is_capital_or_digit b = is_capital b || (nat_le (byte "0") b && nat_le b (byte "9"))

-- a small letter, or `X`
abbrev pub is_small_or_x : ℕ → Bool
is_small_or_x b = is_small b || nat_eq b (byte "X")

-- a name begins with a word, and goes on with such a byte
abbrev pub goes_on : (ℕ → Bool) → List ℕ → List ℕ → Bool
goes_on class word name = starts_with nat_eq name word && class (slice_index_or name (length word) 0)

-- Names that begin so are kept for the library that is to come: of functions (7.26.2, 7.26.10 to 7.26.13), of macros
-- (7.26.3 to 7.26.6; 7.6 p5, p7; 7.12 p6), and of types and macros of whole numbers (7.26.8), of which all are taken here
-- that begin as these do, also where they don't end as these; and those that begin with `_` (7.1.3 p1)
abbrev pub begins_reserved : List ℕ → Bool
begins_reserved name =
    list_any (λ word. goes_on is_small word name)
    (codes "is" ∷ codes "to" ∷ codes "str" ∷ codes "mem" ∷ codes "wcs" ∷ [])
    || (list_any (λ word. goes_on is_capital_or_digit word name) (codes "E" ∷ [])
    || (list_any (λ word. goes_on is_small_or_x word name) (codes "PRI" ∷ codes "SCN" ∷ [])
    || (list_any (λ word. goes_on is_capital word name)
    (codes "SIG" ∷ codes "LC_" ∷ codes "SIG_" ∷ codes "FE_" ∷ codes "FP_" ∷ [])
    || list_any (λ word. starts_with nat_eq name word)
    (codes "int" ∷ codes "uint" ∷ codes "INT" ∷ codes "UINT" ∷ codes "_" ∷ []))))

-- ---- all other names, by headers

-- those of a function of real or complex numbers: for `double`, `float` and `long double`
abbrev pub in_three : List (List ℕ) → List (List ℕ)
in_three names = names ++ (map (λ name. name ++ codes "f") names ++ map (λ name. name ++ codes "l") names)

-- <assert.h>, <complex.h> (and 7.26.1), <ctype.h>, <errno.h>
abbrev pub complex_names : List (List ℕ)
complex_names =
    codes "assert" ∷ codes "NDEBUG" ∷ codes "complex" ∷ codes "imaginary" ∷ codes "I" ∷ codes "errno"
    ∷ in_three (codes "cacos" ∷ codes "casin" ∷ codes "catan" ∷ codes "ccos" ∷ codes "csin" ∷ codes "ctan"
    ∷ codes "cacosh" ∷ codes "casinh" ∷ codes "catanh" ∷ codes "ccosh" ∷ codes "csinh" ∷ codes "ctanh"
    ∷ codes "cexp" ∷ codes "clog" ∷ codes "cabs" ∷ codes "cpow" ∷ codes "csqrt" ∷ codes "carg" ∷ codes "cimag"
    ∷ codes "conj" ∷ codes "cproj" ∷ codes "creal" ∷ codes "cerf" ∷ codes "cerfc" ∷ codes "cexp2" ∷ codes "cexpm1"
    ∷ codes "clog10" ∷ codes "clog1p" ∷ codes "clog2" ∷ codes "clgamma" ∷ codes "ctgamma" ∷ [])

-- <fenv.h>, <float.h>
abbrev pub floating_names : List (List ℕ)
floating_names =
    codes "fenv_t" ∷ codes "fexcept_t" ∷ codes "feclearexcept" ∷ codes "fegetexceptflag" ∷ codes "feraiseexcept"
    ∷ codes "fesetexceptflag" ∷ codes "fetestexcept" ∷ codes "fegetround" ∷ codes "fesetround" ∷ codes "fegetenv"
    ∷ codes "feholdexcept" ∷ codes "fesetenv" ∷ codes "feupdateenv" ∷ codes "FLT_ROUNDS" ∷ codes "FLT_EVAL_METHOD"
    ∷ codes "FLT_RADIX" ∷ codes "FLT_MANT_DIG" ∷ codes "DBL_MANT_DIG" ∷ codes "LDBL_MANT_DIG" ∷ codes "DECIMAL_DIG"
    ∷ codes "FLT_DIG" ∷ codes "DBL_DIG" ∷ codes "LDBL_DIG" ∷ codes "FLT_MIN_EXP" ∷ codes "DBL_MIN_EXP"
    ∷ codes "LDBL_MIN_EXP" ∷ codes "FLT_MIN_10_EXP" ∷ codes "DBL_MIN_10_EXP" ∷ codes "LDBL_MIN_10_EXP"
    ∷ codes "FLT_MAX_EXP" ∷ codes "DBL_MAX_EXP" ∷ codes "LDBL_MAX_EXP" ∷ codes "FLT_MAX_10_EXP"
    ∷ codes "DBL_MAX_10_EXP" ∷ codes "LDBL_MAX_10_EXP" ∷ codes "FLT_MAX" ∷ codes "DBL_MAX" ∷ codes "LDBL_MAX"
    ∷ codes "FLT_EPSILON" ∷ codes "DBL_EPSILON" ∷ codes "LDBL_EPSILON" ∷ codes "FLT_MIN" ∷ codes "DBL_MIN"
    ∷ codes "LDBL_MIN" ∷ []

-- <inttypes.h>, <iso646.h>, <limits.h>, <locale.h>
abbrev pub number_names : List (List ℕ)
number_names =
    codes "imaxdiv_t" ∷ codes "imaxabs" ∷ codes "imaxdiv" ∷ codes "and" ∷ codes "and_eq" ∷ codes "bitand"
    ∷ codes "bitor" ∷ codes "compl" ∷ codes "not" ∷ codes "not_eq" ∷ codes "or" ∷ codes "or_eq" ∷ codes "xor"
    ∷ codes "xor_eq" ∷ codes "CHAR_BIT" ∷ codes "SCHAR_MIN" ∷ codes "SCHAR_MAX" ∷ codes "UCHAR_MAX"
    ∷ codes "CHAR_MIN" ∷ codes "CHAR_MAX" ∷ codes "MB_LEN_MAX" ∷ codes "SHRT_MIN" ∷ codes "SHRT_MAX"
    ∷ codes "USHRT_MAX" ∷ codes "LONG_MIN" ∷ codes "LONG_MAX" ∷ codes "ULONG_MAX" ∷ codes "LLONG_MIN"
    ∷ codes "LLONG_MAX" ∷ codes "ULLONG_MAX" ∷ codes "lconv" ∷ codes "setlocale" ∷ codes "localeconv" ∷ []

-- <math.h> and <tgmath.h>: macros and types, and functions
abbrev pub math_names : List (List ℕ)
math_names =
    codes "float_t" ∷ codes "double_t" ∷ codes "HUGE_VAL" ∷ codes "HUGE_VALF" ∷ codes "HUGE_VALL"
    ∷ codes "NAN" ∷ codes "MATH_ERRNO" ∷ codes "MATH_ERREXCEPT" ∷ codes "math_errhandling" ∷ codes "fpclassify"
    ∷ codes "signbit"
    ∷ in_three (codes "acos" ∷ codes "asin" ∷ codes "atan" ∷ codes "atan2" ∷ codes "cos" ∷ codes "sin" ∷ codes "tan"
    ∷ codes "acosh" ∷ codes "asinh" ∷ codes "atanh" ∷ codes "cosh" ∷ codes "sinh" ∷ codes "tanh" ∷ codes "exp"
    ∷ codes "exp2" ∷ codes "expm1" ∷ codes "frexp" ∷ codes "ilogb" ∷ codes "ldexp" ∷ codes "log" ∷ codes "log10"
    ∷ codes "log1p" ∷ codes "log2" ∷ codes "logb" ∷ codes "modf" ∷ codes "scalbn" ∷ codes "scalbln" ∷ codes "cbrt"
    ∷ codes "fabs" ∷ codes "hypot" ∷ codes "pow" ∷ codes "sqrt" ∷ codes "erf" ∷ codes "erfc" ∷ codes "lgamma"
    ∷ codes "tgamma" ∷ codes "ceil" ∷ codes "floor" ∷ codes "nearbyint" ∷ codes "rint" ∷ codes "lrint"
    ∷ codes "llrint" ∷ codes "round" ∷ codes "lround" ∷ codes "llround" ∷ codes "trunc" ∷ codes "fmod"
    ∷ codes "remainder" ∷ codes "remquo" ∷ codes "copysign" ∷ codes "nan" ∷ codes "nextafter" ∷ codes "nexttoward"
    ∷ codes "fdim" ∷ codes "fmax" ∷ codes "fmin" ∷ codes "fma" ∷ [])

-- <setjmp.h>, <signal.h>, <stdarg.h>, <stdbool.h>, <stddef.h>, <stdint.h>
abbrev pub base_names : List (List ℕ)
base_names =
    codes "jmp_buf" ∷ codes "setjmp" ∷ codes "longjmp" ∷ codes "sig_atomic_t" ∷ codes "signal" ∷ codes "raise"
    ∷ codes "va_list" ∷ codes "va_arg" ∷ codes "va_copy" ∷ codes "va_end" ∷ codes "va_start" ∷ codes "bool"
    ∷ codes "true" ∷ codes "false" ∷ codes "ptrdiff_t" ∷ codes "size_t" ∷ codes "wchar_t" ∷ codes "NULL"
    ∷ codes "offsetof" ∷ codes "PTRDIFF_MIN" ∷ codes "PTRDIFF_MAX" ∷ codes "SIZE_MAX" ∷ codes "WCHAR_MIN"
    ∷ codes "WCHAR_MAX" ∷ codes "WINT_MIN" ∷ codes "WINT_MAX" ∷ []

-- <stdio.h>
abbrev pub stdio_names : List (List ℕ)
stdio_names =
    codes "FILE" ∷ codes "fpos_t" ∷ codes "BUFSIZ" ∷ codes "FOPEN_MAX" ∷ codes "FILENAME_MAX" ∷ codes "L_tmpnam"
    ∷ codes "SEEK_CUR" ∷ codes "SEEK_END" ∷ codes "SEEK_SET" ∷ codes "TMP_MAX" ∷ codes "stderr" ∷ codes "stdin"
    ∷ codes "stdout" ∷ codes "remove" ∷ codes "rename" ∷ codes "tmpfile" ∷ codes "tmpnam" ∷ codes "fclose"
    ∷ codes "fflush" ∷ codes "fopen" ∷ codes "freopen" ∷ codes "setbuf" ∷ codes "setvbuf" ∷ codes "fprintf"
    ∷ codes "fscanf" ∷ codes "printf" ∷ codes "scanf" ∷ codes "snprintf" ∷ codes "sprintf" ∷ codes "sscanf"
    ∷ codes "vfprintf" ∷ codes "vfscanf" ∷ codes "vprintf" ∷ codes "vscanf" ∷ codes "vsnprintf" ∷ codes "vsprintf"
    ∷ codes "vsscanf" ∷ codes "fgetc" ∷ codes "fgets" ∷ codes "fputc" ∷ codes "fputs" ∷ codes "getc"
    ∷ codes "getchar" ∷ codes "gets" ∷ codes "putc" ∷ codes "putchar" ∷ codes "puts" ∷ codes "ungetc"
    ∷ codes "fread" ∷ codes "fwrite" ∷ codes "fgetpos" ∷ codes "fseek" ∷ codes "fsetpos" ∷ codes "ftell"
    ∷ codes "rewind" ∷ codes "clearerr" ∷ codes "feof" ∷ codes "ferror" ∷ codes "perror" ∷ []

-- <stdlib.h>, <time.h>
abbrev pub stdlib_names : List (List ℕ)
stdlib_names =
    codes "div_t" ∷ codes "ldiv_t" ∷ codes "lldiv_t" ∷ codes "RAND_MAX" ∷ codes "MB_CUR_MAX" ∷ codes "atof"
    ∷ codes "atoi" ∷ codes "atol" ∷ codes "atoll" ∷ codes "rand" ∷ codes "srand" ∷ codes "calloc" ∷ codes "free"
    ∷ codes "malloc" ∷ codes "realloc" ∷ codes "abort" ∷ codes "atexit" ∷ codes "exit" ∷ codes "getenv"
    ∷ codes "system" ∷ codes "bsearch" ∷ codes "qsort" ∷ codes "abs" ∷ codes "labs" ∷ codes "llabs" ∷ codes "div"
    ∷ codes "ldiv" ∷ codes "lldiv" ∷ codes "mblen" ∷ codes "mbtowc" ∷ codes "wctomb" ∷ codes "mbstowcs"
    ∷ codes "CLOCKS_PER_SEC" ∷ codes "clock_t" ∷ codes "time_t" ∷ codes "tm" ∷ codes "clock" ∷ codes "difftime"
    ∷ codes "mktime" ∷ codes "time" ∷ codes "asctime" ∷ codes "ctime" ∷ codes "gmtime" ∷ codes "localtime" ∷ []

-- <wchar.h>, <wctype.h>
abbrev pub wide_names : List (List ℕ)
wide_names =
    codes "mbstate_t" ∷ codes "wint_t" ∷ codes "WEOF" ∷ codes "fwprintf" ∷ codes "fwscanf" ∷ codes "swprintf"
    ∷ codes "swscanf" ∷ codes "vfwprintf" ∷ codes "vfwscanf" ∷ codes "vswprintf" ∷ codes "vswscanf"
    ∷ codes "vwprintf" ∷ codes "vwscanf" ∷ codes "wprintf" ∷ codes "wscanf" ∷ codes "fgetwc" ∷ codes "fgetws"
    ∷ codes "fputwc" ∷ codes "fputws" ∷ codes "fwide" ∷ codes "getwc" ∷ codes "getwchar" ∷ codes "putwc"
    ∷ codes "putwchar" ∷ codes "ungetwc" ∷ codes "wmemchr" ∷ codes "wmemcmp" ∷ codes "wmemcpy" ∷ codes "wmemmove"
    ∷ codes "wmemset" ∷ codes "btowc" ∷ codes "wctob" ∷ codes "mbsinit" ∷ codes "mbrlen" ∷ codes "mbrtowc"
    ∷ codes "wcrtomb" ∷ codes "mbsrtowcs" ∷ codes "wctrans_t" ∷ codes "wctype_t" ∷ codes "wctype"
    ∷ codes "wctrans" ∷ []

-- all of them; those that begin as told above aren't listed
abbrev pub library_names : List (List ℕ)
library_names =
    complex_names ++ (floating_names ++ (number_names ++ (math_names ++ (base_names
    ++ (stdio_names ++ (stdlib_names ++ wide_names))))))

-- whether C99 keeps a name
unfoldable pub is_reserved : List ℕ → Bool
is_reserved name = begins_reserved name || list_any (bytes_eq name) library_names
