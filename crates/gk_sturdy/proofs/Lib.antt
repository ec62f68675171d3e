mod Alike
mod Places
mod Reading
mod Weighed
