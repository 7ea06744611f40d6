-- How numbers and bytes are written.
pub use Rattle.text_words.specs.Spelled.{digit_text, byte_hex, hex, numbered}
